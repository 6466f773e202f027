-- Texts that are written one level deeper, and at the top.
use Rattle.std.proofs.Common.{ℕ, suc, ◌+◌, ◌≡◌, refl, sym, ◌∙◌, ap, subst, arith, true, false, List, [], ◌∷◌, ◌++◌, ◌==◌, codes, if◌then◌else◌, Result, inl, inr}
use Rattle.std.proofs.lemmas.List.{append_assoc}
use Rattle.std.proofs.lemmas.Bool.Decides.{eqb_tells}
use Rattle.std.proofs.Output.{has_written_of_eq}
use Rattle.std.specs.Fmt.{HasWritten, IsPlainFormatter, WritesOnOk}
use Rattle.std.specs.declared.fmt.Formatter.{Formatter}
use Rattle.std.specs.declared.fmt.Error.{Error}
use denote.Ref.{MutBor}
use Rattle.wgsl_model.specs.Printed.Indentation.{after_line_ends, indented}
use Rattle.wgsl_model.proofs.Filled.{IsFilled}
use Rattle.wgsl_writer.specs.declared.indented.Indented.{Indented}
use Rattle.wgsl_writer.specs.Depth.{spaces}
use Rattle.wgsl_writer.specs.Writing.{IsBack, IsDeeper, WritesInto, Wrote}

-- with no gap nothing changes
pub after_nothing : (xs : List ℕ) → after_line_ends [] xs ≡ xs
after_nothing [] = refl
after_nothing (x ∷ xs) =
    elim (x == 10) as (λ b. (if b then x ∷ after_line_ends [] xs else x ∷ after_line_ends [] xs) ≡ x ∷ xs) [
      | true ↦ ap (λ z. x ∷ z) (after_nothing xs)
      | false ↦ ap (λ z. x ∷ z) (after_nothing xs)
    ]

-- an inner gap becomes the end of the outer one
after_four : (gap xs : List ℕ)
    → after_line_ends gap (after_line_ends (codes "    ") xs) ≡ after_line_ends (gap ++ codes "    ") xs
after_four gap [] = refl
after_four gap (x ∷ xs) =
    let four = codes "    " in
    let inner = gap ++ four in
    elim (eqb_tells x 10) [
      | inl e ↦
          ap (λ b. after_line_ends gap
          (if b then x ∷ (four ++ after_line_ends four xs) else x ∷ after_line_ends four xs)) e.0
          ∙ ap (λ b. if b then x ∷ (gap ++ (four ++ after_line_ends gap (after_line_ends four xs)))
          else x ∷ (four ++ after_line_ends gap (after_line_ends four xs))) e.0
          ∙ ap (λ z. x ∷ (gap ++ (four ++ z))) (after_four gap xs)
          ∙ ap (λ z. x ∷ z) (sym (append_assoc gap four (after_line_ends inner xs)))
          ∙ sym (ap (λ b. if b then x ∷ (inner ++ after_line_ends inner xs) else x ∷ after_line_ends inner xs) e.0)
      | inr e ↦
          ap (λ b. after_line_ends gap
          (if b then x ∷ (four ++ after_line_ends four xs) else x ∷ after_line_ends four xs)) e.0
          ∙ ap (λ b. if b then x ∷ (gap ++ after_line_ends gap (after_line_ends four xs))
          else x ∷ after_line_ends gap (after_line_ends four xs)) e.0
          ∙ ap (λ z. x ∷ z) (after_four gap xs)
          ∙ sym (ap (λ b. if b then x ∷ (inner ++ after_line_ends inner xs) else x ∷ after_line_ends inner xs) e.0)
    ]

-- four spaces before a text that is not empty
abbrev pub begun : List ℕ → List ℕ
begun [] = []
begun (b ∷ bs) = codes "    " ++ (b ∷ bs)

pub begun_filled : (text : List ℕ) → IsFilled text → codes "    " ++ text ≡ begun text
begun_filled [] h = absurd h
begun_filled (b ∷ bs) h = refl

-- begun one level deeper, a text is indented
begun_deeper : (depth : ℕ) (text : List ℕ)
    → after_line_ends (spaces (depth + 1)) (begun text) ≡ after_line_ends (spaces depth) (indented text)
begun_deeper depth [] = refl
begun_deeper depth (b ∷ bs) =
    let e : depth + 1 ≡ suc depth = omega arith in
    ap (λ d. after_line_ends (spaces d) (begun (b ∷ bs))) e
    ∙ ap (λ z. codes "    " ++ z) (sym (after_four (spaces depth) (b ∷ bs)))

module _ {W : Type 0} (took : W → List ℕ → W → Type 0) where
  -- what is written between `indent` and `unindent` is an indented text
  pub wrote_within : (a b c d : Indented W) (text : List ℕ) → IsDeeper a b
      → Wrote took b (begun text) c → IsBack c d → Wrote took a (indented text) d
  wrote_within a b c d text down w up = record {
    depth = omega (arith, down.0, w.depth, up.0);
    lent = ap (λ (m : MutBor (Formatter W)). m.ghost_name) up.1 ∙ w.lent
        ∙ ap (λ (m : MutBor (Formatter W)). m.ghost_name) down.1;
    written = λ plain.
        let inside = w.written (subst (λ (m : MutBor (Formatter W)). IsPlainFormatter m.now) (sym down.1) plain) in
        let from = subst (λ (m : MutBor (Formatter W)). HasWritten took m.now
        (after_line_ends (spaces b.depth) (begun text)) c.to.now) down.1 inside in
        let to = subst (λ (m : MutBor (Formatter W)). HasWritten took a.to.now
        (after_line_ends (spaces b.depth) (begun text)) m.now) (sym up.1) from in
        has_written_of_eq took a.to.now _ _ d.to.now
        (ap (λ (n : ℕ). after_line_ends (spaces n) (begun text)) down.0 ∙ begun_deeper a.depth text) to;
  }

  -- a writer at the top writes a text as it is
  pub printed : (f : MutBor (Formatter W)) (a b : Indented W) (m : MutBor (Formatter W))
      (r : Result (Unit {0}) Error) (text : List ℕ) (g : Formatter W)
      → a.to ≡ f → a.depth ≡ 0 → WritesInto took a r text b → m ≡ b.to
      → (m.ghost_name ≡ f.ghost_name → g ≡ m.now) → WritesOnOk took f.now r text g
  printed f a b m r text g to top writes back held = λ plain ok.
      let w = writes ok in
      let name : m.ghost_name ≡ f.ghost_name = ap (λ (x : MutBor (Formatter W)). x.ghost_name) back
      ∙ w.lent ∙ ap (λ (x : MutBor (Formatter W)). x.ghost_name) to in
      let inside = w.written (subst (λ (x : MutBor (Formatter W)). IsPlainFormatter x.now) (sym to) plain) in
      let from = subst (λ (x : MutBor (Formatter W)). HasWritten took x.now
      (after_line_ends (spaces a.depth) text) b.to.now) to inside in
      let end : g ≡ b.to.now = held name ∙ ap (λ (x : MutBor (Formatter W)). x.now) back in
      let shown = subst (λ (x : Formatter W). HasWritten took f.now
      (after_line_ends (spaces a.depth) text) x) (sym end) from in
      has_written_of_eq took f.now _ _ g
      (ap (λ (n : ℕ). after_line_ends (spaces n) text) top ∙ after_nothing text) shown
