-- Bytes that are read and not yet in a line.
use Rattle.std.proofs.Common.{◌≡◌, refl, ap, sym, ◌∙◌, ℕ, ◌+◌, ◌-◌, ◌<◌, ◌≤◌, ◌==◌, false, if◌then◌else◌, List, [], ◌∷◌, ◌++◌, length, take, drop, get_or, append_assoc, arith}
use Rattle.std.proofs.lemmas.Bool.{false_from_ne_true}
use Rattle.std.proofs.lemmas.Bool.Decides.{Decides-eqb}
use Rattle.std.proofs.lemmas.List.{length-drop, get_or-drop, take_more, drop_more, append-nil, drop_all, take_all}
use Rattle.wgsl_diff.specs.Lines.{before_lines, lines_of}

-- bytes before the lines that follow them
abbrev pub before_all : List ℕ → List (List ℕ) → List (List ℕ)
before_all [] lines = lines
before_all (c ∷ cs) lines = before_lines c (before_all cs lines)

-- one more byte
pub before_all-push : (front : List ℕ) (b : ℕ) (lines : List (List ℕ))
    → before_all (front ++ b ∷ []) lines ≡ before_all front (before_lines b lines)
before_all-push [] b lines = refl
before_all-push (c ∷ cs) b lines = ap (before_lines c) (before_all-push cs b lines)

-- before a line
pub before_all-line : (front line : List ℕ) (lines : List (List ℕ))
    → before_all front (line ∷ lines) ≡ (front ++ line) ∷ lines
before_all-line [] line lines = refl
before_all-line (c ∷ cs) line lines = ap (before_lines c) (before_all-line cs line lines)

-- at the end of the text
pub before_all-none : (c : ℕ) (cs : List ℕ) → before_all (c ∷ cs) [] ≡ (c ∷ cs) ∷ []
before_all-none c [] = refl
before_all-none c (d ∷ ds) = ap (before_lines c) (before_all-none d ds)

-- a byte that is no LF begins no line
other_byte : (b : ℕ) (rest : List ℕ) → (b ≡ 10 → ⊥) → lines_of (b ∷ rest) ≡ before_lines b (lines_of rest)
other_byte b rest other =
    let apart : (b == 10) ≡ false = false_from_ne_true (b == 10) (λ same. other ((Decides-eqb b 10).0 same)) in
    ap (λ t. if t then (b ∷ []) ∷ lines_of rest else before_lines b (lines_of rest)) apart

module _ (text : List ℕ) (s i : ℕ) (low : s ≤ i) (high : i < length text) where
  -- from s up to the byte after i
  taken_more : take (i + 1 - s) (drop s text) ≡ take (i - s) (drop s text) ++ get_or text i 0 ∷ []
  taken_more =
      let count : i + 1 - s ≡ i - s + 1 = omega arith in
      let place : s + (i - s) ≡ i = omega arith in
      let within : i - s < length (drop s text) = omega (arith, length-drop s text) in
      ap (λ k. take k (drop s text)) count ∙ take_more (drop s text) (i - s) 0 within
      ∙ ap (λ b. take (i - s) (drop s text) ++ b ∷ []) (get_or-drop s text (i - s) 0 ∙ ap (λ k. get_or text k 0) place)

  -- where the byte is an LF, what is pending is a line
  pub line_read : (texts all : List (List ℕ)) → get_or text i 0 ≡ 10
      → texts ++ before_all (take (i - s) (drop s text)) (lines_of (drop i text)) ≡ all
      → texts ++ (take (i + 1 - s) (drop s text) ∷ []) ++ lines_of (drop (i + 1) text) ≡ all
  line_read texts all ends before =
      let front = take (i - s) (drop s text) in
      let rest = drop (i + 1) text in
      append_assoc texts (take (i + 1 - s) (drop s text) ∷ []) (lines_of rest)
      ∙ ap (λ line. texts ++ line ∷ lines_of rest) (taken_more ∙ ap (λ b. front ++ b ∷ []) ends)
      ∙ ap (λ lines. texts ++ lines) (sym (before_all-line front (10 ∷ []) (lines_of rest)))
      ∙ ap (λ t. texts ++ before_all front (lines_of t)) (sym (drop_more text i 0 high ∙ ap (λ b. b ∷ rest) ends))
      ∙ before

  -- another byte is pending too
  pub byte_read : (texts all : List (List ℕ)) → (get_or text i 0 ≡ 10 → ⊥)
      → texts ++ before_all (take (i - s) (drop s text)) (lines_of (drop i text)) ≡ all
      → texts ++ before_all (take (i + 1 - s) (drop s text)) (lines_of (drop (i + 1) text)) ≡ all
  byte_read texts all other before =
      let front = take (i - s) (drop s text) in
      let rest = drop (i + 1) text in
      let b = get_or text i 0 in
      ap (λ pending. texts ++ before_all pending (lines_of rest)) taken_more
      ∙ ap (λ lines. texts ++ lines)
      (before_all-push front b (lines_of rest) ∙ ap (before_all front) (sym (other_byte b rest other)))
      ∙ ap (λ t. texts ++ before_all front (lines_of t)) (sym (drop_more text i 0 high))
      ∙ before

-- what is pending at the end is the last line, if it is something
before_all-end : (front : List ℕ) → 0 < length front → before_all front [] ≡ front ∷ []
before_all-end [] some = absurd (omega (arith, some))
before_all-end (c ∷ cs) some = before_all-none c cs

module _ (text : List ℕ) (s i : ℕ) (texts : List (List ℕ)) (end : length text ≤ i) (at_end : i ≤ length text)
    (before : texts ++ before_all (take (i - s) (drop s text)) (lines_of (drop i text)) ≡ lines_of text) where
  whole : texts ++ before_all (take (length text - s) (drop s text)) [] ≡ lines_of text
  whole =
      let same : length text ≡ i = omega arith in
      ap (λ k. texts ++ before_all (take (k - s) (drop s text)) []) same
      ∙ ap (λ t. texts ++ before_all (take (i - s) (drop s text)) (lines_of t)) (sym (drop_all i text end)) ∙ before

  pub last_line : s < length text → texts ++ take (length text - s) (drop s text) ∷ [] ≡ lines_of text
  last_line some =
      let all : take (length text - s) (drop s text) ≡ drop s text = take_all (length text - s)
      (drop s text) (omega (arith, length-drop s text)) in
      let long : 0 < length (take (length text - s) (drop s text)) = rw all (omega (arith, length-drop s text)) in
      ap (λ lines. texts ++ lines) (sym (before_all-end (take (length text - s) (drop s text)) long)) ∙ whole

  pub no_line : length text ≤ s → texts ≡ lines_of text
  no_line none =
      let nothing : length text - s ≡ 0 = omega arith in
      sym (append-nil texts) ∙ ap (λ k. texts ++ before_all (take k (drop s text)) []) (sym nothing) ∙ whole
