-- A text that is written line by line.
use Rattle.std.proofs.Common.{ℕ, ◌≡◌, ◌+◌, ◌-◌, sym, ◌∙◌, ap, List, [], ◌∷◌, ◌++◌, length, take, drop, arith}
use Rattle.std.proofs.lemmas.List.{append_assoc, append-nil, take-append-drop, take_all, length-drop}
use Rattle.wgsl_model.specs.Printed.Indentation.{after_line_ends}
use Rattle.wgsl_writer.specs.LineEnds.{IsLineEnd, IsOneLine}
use Rattle.wgsl_writer.proofs.Indents.{after_append, after_line, after_none, line_then_end}

-- what is after a line
pub line_cut : (text done left : List ℕ) (n k : ℕ) → n ≡ length left → text ≡ done ++ left
    → text ≡ (done ++ take k left) ++ take (n - k) (drop k left)
line_cut text done left n k all is =
    let size = length-drop k left in
    is ∙ ap (λ (z : List ℕ). done ++ z) (sym (take-append-drop k left))
    ∙ sym (append_assoc done (take k left) (drop k left))
    ∙ ap (λ (z : List ℕ). (done ++ take k left) ++ z) (sym (take_all (n - k) (drop k left) (omega (arith, size))))

-- a line, and the line break after it
pub line_written : (gap start done left before line broken : List ℕ) (at : ℕ) → IsLineEnd left at
    → before ≡ start ++ after_line_ends gap done → line ≡ before ++ take at left → broken ≡ line ++ (10 ∷ gap)
    → broken ≡ start ++ after_line_ends gap (done ++ take (at + 1) left)
line_written gap start done left before line broken at ends e f g =
    let ended : after_line_ends gap (take (at + 1) left) ≡ take at left ++ (10 ∷ gap) =
    ap (after_line_ends gap) (sym (line_then_end left at ends)) ∙ after_append gap (take at left) (10 ∷ [])
    ∙ ap (λ (z : List ℕ). z ++ (10 ∷ (gap ++ []))) (after_line gap left at ends)
    ∙ ap (λ (z : List ℕ). take at left ++ (10 ∷ z)) (append-nil gap) in
    g ∙ ap (λ (z : List ℕ). z ++ (10 ∷ gap)) (f ∙ ap (λ (z : List ℕ). z ++ take at left) e)
    ∙ append_assoc (start ++ after_line_ends gap done) (take at left) (10 ∷ gap)
    ∙ append_assoc start (after_line_ends gap done) (take at left ++ (10 ∷ gap))
    ∙ ap (λ (z : List ℕ). start ++ (after_line_ends gap done ++ z)) (sym ended)
    ∙ ap (λ (z : List ℕ). start ++ z) (sym (after_append gap done (take (at + 1) left)))

-- the last line
pub last_written : (gap start done left text before out : List ℕ) → IsOneLine left (length left) → text ≡ done ++ left
    → before ≡ start ++ after_line_ends gap done → out ≡ before ++ left
    → out ≡ start ++ after_line_ends gap text
last_written gap start done left text before out one is e f =
    f ∙ ap (λ (z : List ℕ). z ++ left) e ∙ append_assoc start (after_line_ends gap done) left
    ∙ ap (λ (z : List ℕ). start ++ (after_line_ends gap done ++ z)) (sym (after_none gap left one))
    ∙ ap (λ (z : List ℕ). start ++ z) (sym (after_append gap done left) ∙ ap (after_line_ends gap) (sym is))
