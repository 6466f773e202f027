-- Texts that go into an `Indented`, one after another.
use Rattle.std.proofs.Common.{ℕ, ◌≡◌, refl, sym, ◌∙◌, subst, List, [], ◌∷◌, ◌++◌, Option, None, Some, Result, Ok, Err, true≢false, IfSome}
use Rattle.std.proofs.Output.{has_written_append, has_written_of_eq, writes_in_calls_nil}
use Rattle.std.specs.List.{FoldsTo, concat}
use Rattle.std.specs.Result.{OnOk}
use Rattle.std.specs.Fmt.{HasWritten, WritesText}
use Rattle.std.specs.declared.fmt.Error.{Error}
use Rattle.wgsl_writer.specs.declared.indented.Indented.{Indented}
use Rattle.wgsl_model.specs.Printed.Indentation.{after_line_ends}
use Rattle.wgsl_writer.specs.Depth.{spaces}
use Rattle.wgsl_writer.specs.Writing.{Wrote, WritesInto}
use Rattle.wgsl_writer.proofs.Indents.{after_append}

module _ {W : Type 0} (took : W → List ℕ → W → Type 0) where
  -- nothing was written
  pub wrote_nothing : (s : Indented W) → Wrote took s [] s
  wrote_nothing s = record {
    depth = refl;
    lent = refl;
    written = λ plain. record { wrote = writes_in_calls_nil took s.to.now.writer; plain = plain };
  }

  -- one text, and the next after it
  pub wrote_append : (a : Indented W) (xs : List ℕ) (b : Indented W) (ys : List ℕ) (c : Indented W)
      → Wrote took a xs b → Wrote took b ys c → Wrote took a (xs ++ ys) c
  wrote_append a xs b ys c p q =
      let gap = spaces a.depth in
      record {
        depth = q.depth ∙ p.depth;
        lent = q.lent ∙ p.lent;
        written = λ plain.
            let one = p.written plain in
            let two = subst (λ (d : ℕ). HasWritten took b.to.now
            (after_line_ends (spaces d) ys) c.to.now) p.depth (q.written one.plain) in
            has_written_of_eq took a.to.now _ _ c.to.now (sym (after_append gap xs ys))
            (has_written_append took a.to.now _ b.to.now _ c.to.now one two);
      }

  -- the same text in another form
  pub wrote_of_eq : (a : Indented W) (xs ys : List ℕ) (b : Indented W) → xs ≡ ys → Wrote took a xs b → Wrote took a ys b
  wrote_of_eq a xs ys b e = subst (λ (text : List ℕ). Wrote took a text b) e

  calls : (s : Indented W) (xs : List (List ℕ)) (t : Indented W) → FoldsTo (Wrote took) s xs t
      → Wrote took s (concat xs) t
  calls s [] t p = subst (λ (x : Indented W). Wrote took s [] x) p (wrote_nothing s)
  calls s (x ∷ xs) t p = wrote_append s x p.0 (concat xs) t p.1 (calls p.0 xs t p.2)

  -- what a value writes by calls of `write_str`
  pub value_written : (s t : Indented W) (o : Option (List ℕ)) (r : Result (Unit {0}) Error)
      → OnOk r (WritesText (Wrote took) s o t) → IfSome o (λ text. WritesInto took s r text t)
  value_written s t None r w = tt
  value_written s t (Some bs) (Err e) w = λ ok. absurd (true≢false (sym ok))
  value_written s t (Some bs) (Ok u) w = λ ok. wrote_of_eq s (concat w.parts) bs t w.whole (calls s w.parts t w.calls)
