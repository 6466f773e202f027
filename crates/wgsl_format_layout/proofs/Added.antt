-- Pieces that are added to a text.
use Rattle.std.proofs.Common.{◌≡◌, ℕ, zero, suc, ◌+◌, ◌<◌, ◌==◌, true, false, nat_le, refl, sym, ap, subst, ◌∙◌, List, [], ◌∷◌, ◌++◌, length, slice_index_or, append_assoc, append-nil, replicate, arith}
use Rattle.std.proofs.lemmas.Bool.{leb-true, and_parts, eqb-true, false_from_ne_true, true≢false}
use Rattle.std.proofs.lemmas.Str.{chars-IsAscii}
use Rattle.std.proofs.lemmas.Str.Ascii.{IsAscii-from_all}
use Rattle.std.specs.List.{list_all}
use Rattle.std.specs.Str.{IsAscii, chars}
use Rattle.std.specs.Prelude.{string_bytes, codes}
use Rattle.std.proofs.lemmas.List.{replicate-append-replicate}
use Rattle.wgsl_model_tidy.specs.Layout.{Layout as Plain, level, column_after}
use Rattle.wgsl_model_tidy.specs.LaidOut.{indentation}
use Rattle.wgsl_theory_tidy.proofs.Kept.Fitting.{column_append}
use Rattle.wgsl_format_layout.specs.Layouts.{layout_view}
use Rattle.wgsl_format_layout.specs.Lines.{is_printable, MovesOn, Passes, Adds}
use Rattle.wgsl_format_layout.specs.declared.layout.Layout.{Layout}
use Rattle.wgsl_format_layout.specs.declared.line.Line.{Line}
use Rattle.wgsl_format_layout.specs.declared.text.Text.{Text}

-- a line that goes over nothing
pub passes_none : (line : Line) → Passes line [] line
passes_none line = record { layout = refl; column = refl }

-- over one text and then another
pub passes_both : (a b c : Line) (xs ys : List ℕ) → Passes a xs b → Passes b ys c → Passes a (xs ++ ys) c
passes_both a b c xs ys p q = record {
  layout = q.layout ∙ p.layout;
  column = q.column ∙ ap (λ (l : Layout). column_after (layout_view l) b.column ys) p.layout
      ∙ ap (λ n. column_after (layout_view a.layout) n ys) p.column
      ∙ sym (column_append (layout_view a.layout) a.column xs ys);
}

pub adds_none : (text : Text) → Adds text [] text
adds_none text = record { written = sym (append-nil (chars (string_bytes text.string))); line = passes_none text.line }

-- one piece and then another
pub adds_both : (a b c : Text) (xs ys : List ℕ) → Adds a xs b → Adds b ys c → Adds a (xs ++ ys) c
adds_both a b c xs ys p q = record {
  written = q.written ∙ ap (λ cs. cs ++ ys) p.written ∙ append_assoc (chars (string_bytes a.string)) xs ys;
  line = passes_both a.line b.line c.line xs ys p.line q.line;
}

-- ---- a text of which a front is passed

pub record IsPassed (old : Line) (text : List ℕ) (new : Line) (rest : List ℕ) : Type 0 where
  pub front : List ℕ
  pub whole : text ≡ front ++ rest
  pub passes : Passes old front new

pub one_passed : (a b c : Line) (text before after : List ℕ) (char : ℕ) → IsPassed a text b before
    → before ≡ char ∷ after → Passes b (char ∷ []) c → IsPassed a text c after
one_passed a b c text before after char p e q = record {
  front = p.front ++ (char ∷ []);
  whole = p.whole ∙ ap (λ xs. p.front ++ xs) e ∙ sym (append_assoc p.front (char ∷ []) after);
  passes = passes_both a b c p.front (char ∷ []) p.passes q;
}

pub all_passed : (a b : Line) (text rest : List ℕ) → IsPassed a text b rest → rest ≡ [] → Passes a text b
all_passed a b text rest p e = subst (λ xs. Passes a xs b)
    (sym (p.whole ∙ ap (λ xs. p.front ++ xs) e ∙ append-nil p.front)) p.passes

-- ---- one character

-- characters of which each takes one column
columns_printable : (layout : Plain) (n : ℕ) (cs : List ℕ) → list_all is_printable cs ≡ true
    → column_after layout n cs ≡ n + length cs
columns_printable layout n [] h = omega arith
columns_printable layout n (c ∷ cs) h =
    let b = and_parts (is_printable c) (list_all is_printable cs) h in
    let within = and_parts (nat_le 32 c) (nat_le c 126) b.0 in
    let other : (k : ℕ) → nat_le 32 k ≡ false → (c == k) ≡ false = λ k l.
    false_from_ne_true (c == k) (λ q. true≢false (sym within.0 ∙ ap (nat_le 32) (eqb-true c k q) ∙ l)) in
    let next : column_after layout n (c ∷ cs) ≡ column_after layout (n + 1) cs =
    rw (other 10 refl, other 9 refl) refl in
    let more : (n + 1) + length cs ≡ n + suc (length cs) = omega arith in
    next ∙ columns_printable layout (n + 1) cs b.1 ∙ more

printable_ascii : (bs : List ℕ) → list_all is_printable bs ≡ true → IsAscii bs
printable_ascii bs h = IsAscii-from_all bs (below bs h)
  where
    below : (cs : List ℕ) → list_all is_printable cs ≡ true → (k d : ℕ) → k < length cs → slice_index_or cs k d < 128
    below [] h k d l = absurd (omega (arith, l))
    below (c ∷ cs) h zero d l =
        let b = and_parts (is_printable c) (list_all is_printable cs) h in
        let low = and_parts (nat_le 32 c) (nat_le c 126) b.0 in omega (arith, leb-true c 126 low.1)
    below (c ∷ cs) h (suc k) d l = below cs
        (and_parts (is_printable c) (list_all is_printable cs) h).1 k d (omega (arith, l))

-- a line that goes on in no other way
moved : (line after : Line) (n : ℕ) (cs : List ℕ) → MovesOn line n after
    → Passes line cs (record { layout = line.layout; column = after.column }) → Passes line cs after
moved line after n cs m p =
    subst (λ (k : Layout). Passes line cs (record { layout = k; column = after.column })) (sym m.layout) p

pub printable_passed : (line after : Line) (bs : List ℕ) (n : ℕ) → list_all is_printable bs ≡ true
    → n ≡ length bs → MovesOn line n after → Passes line (chars bs) after
printable_passed line after bs n h e m =
    subst (λ xs. Passes line xs after) (sym (chars-IsAscii bs (printable_ascii bs h)))
    (record {
      layout = m.layout;
      column = m.column ∙ ap (λ k. line.column + k) e
          ∙ sym (columns_printable (layout_view line.layout) line.column bs h);
    })

pub printable_column : (layout : Plain) (bs : List ℕ) → list_all is_printable bs ≡ true
    → length bs ≡ column_after layout 0 (chars bs)
printable_column layout bs h =
    sym (ap (column_after layout 0) (chars-IsAscii bs (printable_ascii bs h))
    ∙ columns_printable layout 0 bs h ∙ none_before)
  where
    none_before : 0 + length bs ≡ length bs
    none_before = omega arith

-- ---- white space

pub adds_as : (a b : Text) (xs ys : List ℕ) → xs ≡ ys → Adds a xs b → Adds a ys b
adds_as a b xs ys e p = subst (λ zs. Adds a zs b) e p

-- a number of spaces more
pub spaces_more : (a b c : Text) (n k m : ℕ) → Adds a (replicate n 32) b → Adds b (replicate k 32) c
    → m ≡ n + k → Adds a (replicate m 32) c
spaces_more a b c n k m p q e = adds_as a c (replicate n 32 ++ replicate k 32) (replicate m 32)
    (replicate-append-replicate n k 32 ∙ ap (λ i. replicate i 32) (sym e))
    (adds_both a b c (replicate n 32) (replicate k 32) p q)

-- a level more
levels_turned : (layout : Plain) (depth : ℕ)
    → indentation layout depth ++ level layout ≡ level layout ++ indentation layout depth
levels_turned layout zero = sym (append-nil (level layout))
levels_turned layout (suc depth) = append_assoc (level layout) (indentation layout depth) (level layout)
    ∙ ap (λ xs. level layout ++ xs) (levels_turned layout depth)

pub level_more : (a b c : Text) (depth m : ℕ) → Adds a (indentation (layout_view a.line.layout) depth) b
    → Adds b (level (layout_view b.line.layout)) c → m ≡ suc depth
    → Adds a (indentation (layout_view a.line.layout) m) c
level_more a b c depth m p q e =
    let layout = layout_view a.line.layout in
    adds_as a c (indentation layout depth ++ level layout) (indentation layout m)
    (levels_turned layout depth ∙ ap (indentation layout) (sym e))
    (adds_both a b c (indentation layout depth) (level layout) p
    (subst (λ (l : Layout). Adds b (level (layout_view l)) c) p.line.layout q))

-- a line break and the levels of the next line
pub break_added : (a b c : Text) (ends : List ℕ) (depth : ℕ) → Adds a ends b
    → Adds b (indentation (layout_view b.line.layout) depth) c
    → Adds a (ends ++ indentation (layout_view a.line.layout) depth) c
break_added a b c ends depth p q = adds_both a b c ends (indentation (layout_view a.line.layout) depth) p
    (subst (λ (l : Layout). Adds b (indentation (layout_view l) depth) c) p.line.layout q)

-- the characters that a level is written by
pub four_chars : chars (codes "    ") ≡ replicate 4 32
unfolding chars
four_chars = refl

pub tab_chars : chars (codes "\t") ≡ codes "\t"
unfolding chars
tab_chars = refl
