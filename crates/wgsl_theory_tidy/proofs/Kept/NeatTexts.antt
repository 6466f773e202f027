-- Texts whose lines outside block comments end with LF and no white space before it, and of which
-- no two one after the other are empty.
use Rattle.std.proofs.Common.{◌≡◌, ℕ, ◌==◌, ◌&&◌, Bool, true, false, cond, refl, sym, subst, ◌∙◌, List, [], ◌∷◌, ◌++◌, arith}
use Rattle.std.proofs.lemmas.Bool.{true≢false}
use Rattle.std.proofs.lemmas.Grind.{common_steps}
use Rattle.grammar.specs.Tables.{is_empty}
use Rattle.std.specs.Char.{is_whitespace}
use Rattle.wgsl_model.specs.Tokens.Characters.{is_line_break}
use Rattle.wgsl_model.specs.Tokens.Trivia.{Place, outside, in_line, in_block, second}
use Rattle.wgsl_model_tidy.specs.Lines.{next_place}
use Rattle.wgsl_model_tidy.specs.Layout.{Layout}
use Rattle.wgsl_model_tidy.specs.LaidOut.{Gap, closed, blank, broken, gap_text, indentation}
use Rattle.wgsl_theory_tidy.proofs.Comments.{trimmed, OnLine}
use Rattle.wgsl_theory_tidy.proofs.Levels.{IsIndent, no_indent, one_space, one_tab, indentation_indent}

-- what comes before a character: nothing, a character that is not white, a space or the like, one
-- line break, or more
pub data Before : Type 0 where
  start solid space one_end more_ends : Before

-- after a line break
abbrev pub line_end_more : Before → Before
line_end_more one_end = more_ends
line_end_more more_ends = more_ends
line_end_more b = one_end

-- after a character
abbrev pub then : Before → ℕ → Before
then b c = cond (is_whitespace c) (cond (c == 10) (line_end_more b) space) solid

-- a line may end there
abbrev pub may_end : Before → Bool
may_end solid = true
may_end one_end = true
may_end b = false

-- a character at such a place may come next
abbrev pub MayCome : Place → Before → ℕ → Type 0
MayCome (in_block n) b c = Unit {0}
MayCome (second p) b c = is_line_break c ≡ false
MayCome p b c = is_line_break c ≡ true → (c ≡ 10) × (may_end b ≡ true)

-- a text outside block comments may end there, and at such a place
abbrev pub is_end : Before → Bool
is_end start = true
is_end one_end = true
is_end b = false

abbrev pub may_stop : Place → Before → Bool
may_stop (in_block n) b = true
may_stop p b = is_end b

-- what follows at such a place is neat
abbrev pub Neat : Place → Before → List ℕ → Type 0
Neat p b [] = may_stop p b ≡ true
Neat p b (c ∷ cs) = MayCome p b c × Neat (next_place p c cs) (then b c) cs

-- a neat text that begins outside comments, with a character that is not white
abbrev pub NeatWord : List ℕ → Type 0
NeatWord [] = ⊥
NeatWord (c ∷ cs) = (is_whitespace c ≡ false) × Neat (next_place outside c cs) solid cs

-- a line break is white space
pub break_is_blank : (c : ℕ) → is_line_break c ≡ true → is_whitespace c ≡ true
break_is_blank c h = grind (arith, common_steps)

-- whatever comes before it
pub neat_word : (b : Before) (r : List ℕ) → NeatWord r → Neat outside b r
neat_word b [] h = absurd h
neat_word b (c ∷ cs) h = ((λ l. absurd (true≢false (sym (break_is_blank c l) ∙ h.0))), rw h.0 h.1)

-- ---- gaps

-- white space before it
indent_neat : (xs : List ℕ) (b : Before) (r : List ℕ) → IsIndent xs → NeatWord r → Neat outside b (xs ++ r)
indent_neat _ b r (no_indent) h = neat_word b r h
indent_neat _ b r (one_space xs i) h = ((λ e. absurd (true≢false (sym e))), indent_neat xs space r i h)
indent_neat _ b r (one_tab xs i) h = ((λ e. absurd (true≢false (sym e))), indent_neat xs space r i h)

indentation_neat : (layout : Layout) (depth : ℕ) (b : Before) (r : List ℕ) → NeatWord r
    → Neat outside b (indentation layout depth ++ r)
indentation_neat layout depth b r h = indent_neat (indentation layout depth) b r (indentation_indent layout depth) h

-- a line break, at the end of a line comment or outside
abbrev pub CanBreak : Place → Type 0
CanBreak outside = Unit {0}
CanBreak in_line = Unit {0}
CanBreak p = ⊥

pub broken_neat : (layout : Layout) (p : Place) (empty : Bool) (depth : ℕ) (r : List ℕ) → CanBreak p
    → NeatWord r → Neat p solid (gap_text layout (broken empty depth) ++ r)
broken_neat layout outside true depth r o h =
    ((λ e. (refl, refl)), ((λ e. (refl, refl)), indentation_neat layout depth more_ends r h))
broken_neat layout outside false depth r o h = ((λ e. (refl, refl)), indentation_neat layout depth one_end r h)
broken_neat layout in_line true depth r o h =
    ((λ e. (refl, refl)), ((λ e. (refl, refl)), indentation_neat layout depth more_ends r h))
broken_neat layout in_line false depth r o h = ((λ e. (refl, refl)), indentation_neat layout depth one_end r h)
broken_neat layout (in_block n) empty depth r o h = absurd o
broken_neat layout (second p) empty depth r o h = absurd o

pub gap_neat : (layout : Layout) (gap : Gap) (r : List ℕ) → NeatWord r → Neat outside solid (gap_text layout gap ++ r)
gap_neat layout closed r h = neat_word solid r h
gap_neat layout blank r h = ((λ e. absurd (true≢false (sym e))), neat_word space r h)
gap_neat layout (broken empty depth) r h = broken_neat layout outside empty depth r tt h

-- ---- the text of a line comment

-- the last character is not white
solid_last : (b : Bool) (ys : List ℕ) → ys ≡ [] → (b && is_empty ys) ≡ false → b ≡ false
solid_last true [] e h = absurd (true≢false h)
solid_last true (y ∷ ys) e h = absurd cc
solid_last false ys e h = refl

record Ends (x : ℕ) (xs : List ℕ) : Type 0 where
  others : trimmed xs ≡ xs
  last : xs ≡ [] → is_whitespace x ≡ false

ends_solid : (x : ℕ) (xs : List ℕ) → trimmed (x ∷ xs) ≡ x ∷ xs → Ends x xs
ends_solid x xs = go (is_whitespace x && is_empty (trimmed xs)) refl
  where
    go : (b : Bool) → (is_whitespace x && is_empty (trimmed xs)) ≡ b → cond b [] (x ∷ trimmed xs) ≡ x ∷ xs → Ends x xs
    go true e h = absurd cc
    go false e h =
        let same : trimmed xs ≡ xs = cc in
        record { others = same; last = λ n. solid_last (is_whitespace x) (trimmed xs) (same ∙ n) e }

pub line_neat : (xs : List ℕ) (b : Before) (r : List ℕ) → OnLine xs → trimmed xs ≡ xs
    → (xs ≡ [] → b ≡ solid) → Neat in_line solid r → Neat in_line b (xs ++ r)
line_neat [] b r h t e n = subst (λ a. Neat in_line a r) (sym (e refl)) n
line_neat (x ∷ xs) b r h t e n =
    let s = ends_solid x xs t in
    let end : xs ≡ [] → then b x ≡ solid = λ f. rw (s.last f) refl in
    ((λ l. absurd (true≢false (sym l ∙ h.0))), rw h.0 (line_neat xs (then b x) r h.1 s.others end n))
