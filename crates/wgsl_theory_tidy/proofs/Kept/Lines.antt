-- A laid-out text outside block comments: its lines end with LF and no white space before it, no
-- two one after the other are empty, and it ends with one line break.
use Rattle.std.proofs.Common.{◌≡◌, ℕ, ◌==◌, Bool, true, false, cond, refl, sym, ap, subst, ◌∙◌, List, [], ◌∷◌, ◌++◌, map, append_assoc}
use Rattle.std.proofs.lemmas.Bool.{eqb-true, false_from_ne_true, true≢false}
use Rattle.grammar.specs.Tokens.{Token}
use Rattle.grammar.specs.Endings.{Ending.finished}
use Rattle.std.specs.Char.{is_whitespace}
use Rattle.wgsl_model.specs.Tokens.Characters.{is_line_break}
use Rattle.wgsl_model.specs.Tokens.TokenList.{IsTokenList}
use Rattle.wgsl_model.specs.Tokens.Trivia.{Place, outside, in_line, in_block, second}
use Rattle.wgsl_model_tidy.specs.Kept.{unplaced}
use Rattle.wgsl_model_tidy.specs.Lines.{next_place, place_after, place_of, in_block_comment, BreaksLinesByLF, HasNoTrailingWhiteSpace, HasNoTwoEmptyLines, BeginsWithNoLineBreak, EndsWithOneLineEnd, no_text, in_open_comment, with_line_end}
use Rattle.wgsl_model_tidy.specs.Layout.{Layout}
use Rattle.wgsl_model_tidy.specs.LaidOut.{first_spot, laid_out}
use Rattle.wgsl_model_tidy.specs.Pieces.{pieces}
use Rattle.wgsl_theory_tidy.proofs.Kept.TextFronts.{by_test}
use Rattle.wgsl_theory_tidy.proofs.Kept.NeatTexts.{Before, start, solid, space, one_end, more_ends, line_end_more, then, may_end, MayCome, is_end, may_stop, Neat}
use Rattle.wgsl_theory_tidy.proofs.Kept.Read.{read}
use Rattle.wgsl_theory_tidy.proofs.Kept.LaidText.{laid_neat}

-- ---- a place in a neat text

-- what comes before the rest, after a front
abbrev through : Before → List ℕ → Before
through b [] = b
through b (c ∷ cs) = through (then b c) cs

-- the rest of a neat text is neat
rest_neat : (p : Place) (b : Before) (front rest : List ℕ) → Neat p b (front ++ rest)
    → Neat (place_after p front rest) (through b front) rest
rest_neat p b [] rest n = n
rest_neat p b (c ∷ front) rest n = rest_neat (next_place p c (front ++ rest)) (then b c) front rest n.1

through_one : (b : Before) (front : List ℕ) (c : ℕ) → through b (front ++ (c ∷ [])) ≡ then (through b front) c
through_one b [] c = refl
through_one b (x ∷ xs) c = through_one (then b x) xs c

place_after_one : (p : Place) (front : List ℕ) (c : ℕ) (rest : List ℕ)
    → place_after p (front ++ (c ∷ [])) rest ≡ next_place (place_after p front (c ∷ rest)) c rest
place_after_one p [] c rest = refl
place_after_one p (x ∷ xs) c rest =
    ap (λ ys. place_after (next_place p x ys) (xs ++ (c ∷ [])) rest) (append_assoc xs (c ∷ []) rest)
    ∙ place_after_one (next_place p x (xs ++ (c ∷ rest))) xs c rest

-- ---- line breaks

-- outside block comments a line ends there by LF
break_comes : (p : Place) (b : Before) (d : ℕ) → in_block_comment p ≡ false → is_line_break d ≡ true
    → MayCome p b d → (d ≡ 10) × (may_end b ≡ true)
break_comes outside b d o l m = m l
break_comes in_line b d o l m = m l
break_comes (in_block n) b d o l m = absurd (true≢false o)
break_comes (second p) b d o l m = absurd (true≢false (sym l ∙ m))

break_at : (text : List ℕ) → Neat outside start text → (front rest : List ℕ) (d : ℕ)
    → text ≡ front ++ (d ∷ rest) → is_line_break d ≡ true
    → in_block_comment (place_of front (d ∷ rest)) ≡ false
    → (d ≡ 10) × (may_end (through start front) ≡ true)
break_at text n front rest d e l o =
    break_comes (place_of front (d ∷ rest)) (through start front) d o l
    (rest_neat outside start front (d ∷ rest) (subst (Neat outside start) e n)).0

lf_breaks : (text : List ℕ) → Neat outside start text → BreaksLinesByLF text
lf_breaks text n front rest d e l o = (break_at text n front rest d e l o).0

-- a white character where a line may end is a line break
blank_ends : (b : Before) (c : ℕ) → is_whitespace c ≡ true → may_end (then b c) ≡ true → c ≡ 10
blank_ends b c = go (is_whitespace c) (c == 10) refl
  where
    go : (x y : Bool) → (c == 10) ≡ y → x ≡ true
        → may_end (cond x (cond y (line_end_more b) space) solid) ≡ true → c ≡ 10
    go true true e h m = eqb-true c 10 e
    go true false e h m = absurd (true≢false (sym m))
    go false y e h m = absurd (true≢false (sym h))

blank_free : (text : List ℕ) → Neat outside start text → HasNoTrailingWhiteSpace text
blank_free text n front rest c d e k l o =
    let whole : text ≡ (front ++ (c ∷ [])) ++ (d ∷ rest) = e ∙ sym (append_assoc front (c ∷ []) (d ∷ rest)) in
    let ends = (break_at text n (front ++ (c ∷ [])) rest d whole l o).1 in
    blank_ends (through start front) c k (subst (λ b. may_end b ≡ true) (through_one start front c) ends)

-- ---- empty lines

no_third : (b : Before) → may_end (line_end_more (line_end_more b)) ≡ true → ⊥
no_third start m = true≢false (sym m)
no_third solid m = true≢false (sym m)
no_third space m = true≢false (sym m)
no_third one_end m = true≢false (sym m)
no_third more_ends m = true≢false (sym m)

third_in_block : (p : Place) (b : Before) (rest : List ℕ) → Neat p b (10 ∷ (10 ∷ (10 ∷ rest)))
    → in_block_comment p ≡ true
third_in_block (in_block n) b rest h = refl
third_in_block (second p) b rest h = absurd (true≢false h.0)
third_in_block outside b rest h = absurd (no_third b (h.1.1.0 refl).1)
third_in_block in_line b rest h = absurd (no_third b (h.1.1.0 refl).1)

never_two_empty : (text : List ℕ) → Neat outside start text → HasNoTwoEmptyLines text
never_two_empty text n front rest e =
    third_in_block (place_of front (10 ∷ (10 ∷ (10 ∷ rest)))) (through start front) rest
    (rest_neat outside start front (10 ∷ (10 ∷ (10 ∷ rest))) (subst (Neat outside start) e n))

begins_so : (text : List ℕ) → Neat outside start text → BeginsWithNoLineBreak text
begins_so text n c rest e =
    let first : MayCome outside start c = (subst (Neat outside start) e n).0 in
    false_from_ne_true (is_line_break c) (λ l. true≢false (sym (first l).1))

-- ---- the end

-- a text is empty or has a last character
data HasEnd (text : List ℕ) : Type 0 where
  nothing : text ≡ [] → HasEnd text
  ends_with : (front : List ℕ) (c : ℕ) → text ≡ front ++ (c ∷ []) → HasEnd text

end_more : (c : ℕ) (cs : List ℕ) → HasEnd cs → HasEnd (c ∷ cs)
end_more c cs (nothing e) = ends_with [] c (ap (λ xs. c ∷ xs) e)
end_more c cs (ends_with front d e) = ends_with (c ∷ front) d (ap (λ xs. c ∷ xs) e)

end_of : (text : List ℕ) → HasEnd text
end_of [] = nothing refl
end_of (c ∷ cs) = end_more c cs (end_of cs)

-- a text that ends outside block comments ends with LF
stops : (p : Place) (b : Before) → in_block_comment p ≡ false → may_stop p b ≡ true → is_end b ≡ true
stops (in_block n) b o m = absurd (true≢false o)
stops outside b o m = m
stops in_line b o m = m
stops (second p) b o m = m

last_is_lf : (b : Before) (d : ℕ) → is_end (then b d) ≡ true → (d ≡ 10) × (is_end (line_end_more b) ≡ true)
last_is_lf b d = go (is_whitespace d) (d == 10) refl
  where
    go : (x y : Bool) → (d == 10) ≡ y → is_end (cond x (cond y (line_end_more b) space) solid) ≡ true
        → (d ≡ 10) × (is_end (line_end_more b) ≡ true)
    go true true e m = (eqb-true d 10 e, m)
    go true false e m = absurd (true≢false (sym m))
    go false y e m = absurd (true≢false (sym m))

-- before it is no white space and no line break
is_solid : (b : Before) → may_end b ≡ true → is_end (line_end_more b) ≡ true → b ≡ solid
is_solid solid m i = refl
is_solid one_end m i = absurd (true≢false (sym i))
is_solid start m i = absurd (true≢false (sym m))
is_solid space m i = absurd (true≢false (sym m))
is_solid more_ends m i = absurd (true≢false (sym m))

solid_before : (p : Place) (b : Before) → MayCome p b 10
    → in_block_comment (next_place p 10 []) ≡ false → is_end (line_end_more b) ≡ true → b ≡ solid
solid_before outside b m o i = is_solid b (m refl).1 i
solid_before in_line b m o i = is_solid b (m refl).1 i
solid_before (in_block n) b m o i = absurd (true≢false o)
solid_before (second p) b m o i = absurd (true≢false m)

not_solid : (b : Before) → line_end_more b ≡ solid → ⊥
not_solid start e = absurd cc
not_solid solid e = absurd cc
not_solid space e = absurd cc
not_solid one_end e = absurd cc
not_solid more_ends e = absurd cc

not_blank : (b : Before) (c : ℕ) → then b c ≡ solid → is_whitespace c ≡ false
not_blank b c = go (is_whitespace c) (c == 10)
  where
    go : (x y : Bool) → cond x (cond y (line_end_more b) space) solid ≡ solid → x ≡ false
    go true true e = absurd (not_solid b e)
    go true false e = absurd cc
    go false y e = refl

-- LF at the end, and what comes before it
end_before : (text front : List ℕ) → text ≡ front ++ (10 ∷ []) → through start front ≡ solid
    → HasEnd front → EndsWithOneLineEnd text
end_before text front e s (nothing f) = let none : start ≡ solid = ap (through start) (sym f) ∙ s in absurd cc
end_before text front e s (ends_with others c f) =
    with_line_end others c (e ∙ ap (λ xs. xs ++ (10 ∷ [])) f ∙ append_assoc others (c ∷ []) (10 ∷ []))
    (not_blank (through start others) c (sym (through_one start others c) ∙ ap (through start) (sym f) ∙ s))

end_at : (text front : List ℕ) (d : ℕ) → text ≡ front ++ (d ∷ [])
    → Neat (place_of front (d ∷ [])) (through start front) (d ∷ [])
    → in_block_comment (next_place (place_of front (d ∷ [])) d []) ≡ false → EndsWithOneLineEnd text
end_at text front d e n o =
    let p = place_of front (d ∷ []) in
    let b = through start front in
    let last = last_is_lf b d (stops (next_place p d []) (then b d) o n.1) in
    let comes : MayCome p b 10 = subst (MayCome p b) last.0 n.0 in
    let place : in_block_comment (next_place p 10 []) ≡ false =
    subst (λ c. in_block_comment (next_place p c []) ≡ false) last.0 o in
    end_before text front (subst (λ c. text ≡ front ++ (c ∷ [])) last.0 e)
    (solid_before p b comes place last.1) (end_of front)

ends_so : (text : List ℕ) → Neat outside start text → EndsWithOneLineEnd text
ends_so text n = go (end_of text)
  where
    go : HasEnd text → EndsWithOneLineEnd text
    go (nothing e) = no_text e
    go (ends_with front d e) =
        by_test (in_block_comment (place_of text [])) in_open_comment (λ o.
        (let place : place_of text [] ≡ next_place (place_of front (d ∷ [])) d [] =
        ap (λ xs. place_of xs []) e ∙ place_after_one outside front d [] in
        end_at text front d e (rest_neat outside start front (d ∷ []) (subst (Neat outside start) e n))
        (ap in_block_comment (sym place) ∙ o)))

-- ---- laid-out texts

neat : (layout : Layout) (source : List ℕ) (ts : List Token) → IsTokenList source ts finished
    → Neat outside start (laid_out layout (pieces source ts))
neat layout source ts h = laid_neat layout source (map unplaced ts) (pieces source ts)
    (read source ts h) (first_spot layout (pieces source ts))

pub line_breaks : (layout : Layout) (source : List ℕ) (ts : List Token)
    → IsTokenList source ts finished → BreaksLinesByLF (laid_out layout (pieces source ts))
line_breaks layout source ts h = lf_breaks (laid_out layout (pieces source ts)) (neat layout source ts h)

pub no_trailing_white_space : (layout : Layout) (source : List ℕ) (ts : List Token)
    → IsTokenList source ts finished → HasNoTrailingWhiteSpace (laid_out layout (pieces source ts))
no_trailing_white_space layout source ts h = blank_free (laid_out layout (pieces source ts)) (neat layout source ts h)

pub no_two_empty_lines : (layout : Layout) (source : List ℕ) (ts : List Token)
    → IsTokenList source ts finished → HasNoTwoEmptyLines (laid_out layout (pieces source ts))
no_two_empty_lines layout source ts h = never_two_empty (laid_out layout (pieces source ts)) (neat layout source ts h)

pub no_first_break : (layout : Layout) (source : List ℕ) (ts : List Token)
    → IsTokenList source ts finished → BeginsWithNoLineBreak (laid_out layout (pieces source ts))
no_first_break layout source ts h = begins_so (laid_out layout (pieces source ts)) (neat layout source ts h)

pub one_line_end : (layout : Layout) (source : List ℕ) (ts : List Token)
    → IsTokenList source ts finished → EndsWithOneLineEnd (laid_out layout (pieces source ts))
one_line_end layout source ts h = ends_so (laid_out layout (pieces source ts)) (neat layout source ts h)
