-- A symbol ends before each character that its class does not go on with.
use Rattle.std.proofs.Common.{◌≡◌, ℕ, ◌==◌, ◌&&◌, if◌then◌else◌, Bool, true, false, cond, refl, sym, ap, ◌∙◌, List, [], ◌∷◌, ◌++◌, Some, map}
use Rattle.std.proofs.lemmas.Bool.{and_parts, true≢false, eqb-true}
use Rattle.grammar.specs.Grammar.{is_among}
use Rattle.grammar.specs.Tables.{is_empty}
use Rattle.wgsl_model.specs.Tokens.ClassTable.{symbols}
use Rattle.wgsl_model.specs.Tokens.Pattern.{begins, literal, any_of, spells}
use Rattle.wgsl_model.specs.Tokens.Spelling.{syntactic_token}
use Rattle.wgsl_model.specs.Tokens.Words.{look_up}
use Rattle.wgsl_theory_grammar.proofs.Tokens.Symbols.{each_passes, found_passes}
use Rattle.wgsl_theory_printed.proofs.Spelling.Split.{by_either}
use Rattle.wgsl_model_short.specs.Spaces.{continued_by}

-- where a word goes on with another, the character is among some
abbrev goes_on_among : List ℕ → List ℕ → List ℕ → Bool
goes_on_among [] [] set = true
goes_on_among [] (y ∷ ys) set = is_among y set
goes_on_among (x ∷ xs) [] set = true
goes_on_among (x ∷ xs) (y ∷ ys) set = if x == y then goes_on_among xs ys set else true

abbrev all_among : List ℕ → List (List ℕ × ℕ) → List ℕ → Bool
all_among w [] set = true
all_among w (e ∷ es) set = goes_on_among w e.0 set && all_among w es set

-- the table has no symbol that goes on otherwise
all_continued : each_passes (λ w class. all_among w symbols (continued_by class)) symbols ≡ true
all_continued = refl

-- ---- no symbol begins with a symbol and another character

not_among : (c y : ℕ) (set : List ℕ) → is_among c set ≡ false → is_among y set ≡ true → (c == y) ≡ true → ⊥
not_among c y set n h e = true≢false (sym h ∙ ap (λ d. is_among d set) (sym (eqb-true c y e)) ∙ n)

some_left : (xs : List ℕ) (c : ℕ) (z : List ℕ) → is_empty (xs ++ (c ∷ z)) ≡ true → ⊥
some_left [] c z h = true≢false (sym h)
some_left (x ∷ xs) c z h = true≢false (sym h)

same_first : (x y : ℕ) (b : Bool) → (x == y) ≡ true → (if x == y then b else true) ≡ true → b ≡ true
same_first x y b e h = go (x == y) e h
  where
    go : (t : Bool) → t ≡ true → cond t b true ≡ true → b ≡ true
    go true e h = h
    go false e h = absurd (true≢false (sym e))

literal_ends : (v w : List ℕ) (c : ℕ) (z set : List ℕ) → goes_on_among w v set ≡ true
    → is_among c set ≡ false → spells (literal v) (w ++ (c ∷ z)) ≡ true → ⊥
unfolding begins
literal_ends [] w c z set a n h = some_left w c z h
literal_ends (y ∷ []) [] c z set a n h = not_among c y set n a (and_parts (c == y) _ h).0
literal_ends (y ∷ []) (x ∷ xs) c z set a n h = some_left xs c z (and_parts (x == y) _ h).1
literal_ends (y ∷ (d ∷ ds)) [] c z set a n h = not_among c y set n a (and_parts (c == y) _ h).0
literal_ends (y ∷ (d ∷ ds)) (x ∷ xs) c z set a n h =
    let parts = and_parts (x == y) _ h in
    literal_ends (d ∷ ds) xs c z set (same_first x y _ parts.0 a) n parts.1

table_ends : (es : List (List ℕ × ℕ)) (w : List ℕ) (c : ℕ) (z set : List ℕ) → all_among w es set ≡ true
    → is_among c set ≡ false
    → spells (any_of (map (λ (entry : List ℕ × ℕ). entry.0) es)) (w ++ (c ∷ z)) ≡ true → ⊥
unfolding begins
table_ends [] w c z set a n h = true≢false (sym h)
table_ends (e ∷ es) w c z set a n h =
    let parts = and_parts (goes_on_among w e.0 set) (all_among w es set) a in
    by_either (spells (literal e.0) (w ++ (c ∷ z))) _ h
    (λ k. literal_ends e.0 w c z set parts.0 n k) (λ k. table_ends es w c z set parts.1 n k)

pub symbol_ends : (w : List ℕ) (class c : ℕ) (z : List ℕ) → look_up symbols w ≡ Some class
    → is_among c (continued_by class) ≡ false → spells syntactic_token (w ++ (c ∷ z)) ≡ true → ⊥
symbol_ends w class c z l n h =
    table_ends symbols w c z (continued_by class)
    (found_passes (λ v k. all_among v symbols (continued_by k)) symbols w class all_continued l) n h
