-- No text with the tokens of a module is shorter than the shortest text.
use Rattle.std.proofs.Common.{◌≡◌, ℕ, ◌≤◌, Bool, true, false, cond, not, ◌&&◌, refl, sym, ap, subst, ◌∙◌, List, [], ◌∷◌, ◌++◌, map, arith}
use Rattle.std.specs.Char.{encode_utf8}
use Rattle.std.proofs.lemmas.Bool.{and_parts}
use Rattle.grammar.specs.Tokens.{Token}
use Rattle.grammar.specs.Endings.{Ending.finished}
use Rattle.grammar.specs.Grammar.{IsSentence, is_among}
use Rattle.wgsl_model.specs.Tokens.ClassTable.{SymSemicolon, TemplateArgsStart}
use Rattle.wgsl_model.specs.Tokens.Kind.{Kind}
use Rattle.wgsl_model.specs.Tokens.TokenList.{IsTokenList, width}
use Rattle.wgsl_model.specs.Grammar.Symbols.{Symbol.unit}
use Rattle.wgsl_model.specs.Grammar.Written.{written}
use Rattle.wgsl_theory_grammar.proofs.Tokens.Lists.{token_list_unique}
use Rattle.wgsl_theory_grammar.proofs.Tokens.Widths.{width-append, past}
use Rattle.wgsl_model_tidy.specs.Formatted.{unmarked}
use Rattle.wgsl_model_tidy.specs.Kept.{unplaced}
use Rattle.wgsl_model_tidy.specs.Pieces.{Piece}
use Rattle.wgsl_model_tidy.specs.Syntax.{IsModuleInSyntax}
use Rattle.wgsl_theory_tidy.proofs.Kept.Readings.{IsToken}
use Rattle.wgsl_theory_tidy.proofs.Kept.TokenRoles.{token_starts}
use Rattle.wgsl_model_short.specs.Spaces.{goes_on}
use Rattle.wgsl_model_short.specs.Shortest.{gap, joined, token_pieces, shortest}
use Rattle.wgsl_model_short.specs.Shortened.{IsLeast}
use Rattle.wgsl_theory_short.proofs.Beside.{are_apart, clash}
use Rattle.wgsl_theory_short.proofs.WrittenBeside.{numbers, words_and_numbers, template_starts, less_and_equal, numbers_apart, starts_apart}
use Rattle.wgsl_theory_short.proofs.TokenJoins.{joins, next_word, next_less}
use Rattle.wgsl_theory_short.proofs.Reading.{Tokens, no_token, one_token, tokens}

-- ---- neighbours in a module

-- a class may be before another
pub record MayPrecede (a b : ℕ) : Type 0 where
  pub no_number : is_among a numbers ≡ true → is_among b words_and_numbers ≡ true → ⊥
  pub no_start : is_among a template_starts ≡ true → is_among b less_and_equal ≡ true → ⊥

abbrev pub MayFollow : ℕ → List Piece → Type 0
MayFollow a [] = Unit {0}
MayFollow a (p ∷ ps) = MayPrecede a p.class × MayFollow p.class ps

neighbours : (source : List ℕ) (t : Token) (ts : List Token) → are_apart numbers words_and_numbers (t ∷ ts) ≡ true
    → are_apart template_starts less_and_equal (t ∷ ts) ≡ true → MayFollow t.class (token_pieces source ts)
neighbours source t [] h k = tt
neighbours source t (u ∷ us) h k =
    let first = and_parts (not (is_among t.class numbers && is_among u.class words_and_numbers))
    (are_apart numbers words_and_numbers (u ∷ us)) h in
    let second = and_parts (not (is_among t.class template_starts && is_among u.class less_and_equal))
    (are_apart template_starts less_and_equal (u ∷ us)) k in (
      record {
        no_number = clash (is_among t.class numbers) (is_among u.class words_and_numbers) first.0;
        no_start = clash (is_among t.class template_starts) (is_among u.class less_and_equal) second.0;
      },
      neighbours source u us first.1 second.1,
    )

-- the first may be anything
abbrev pub MayBegin : List Piece → Type 0
MayBegin [] = Unit {0}
MayBegin (p ∷ ps) = MayFollow p.class ps

pub all_neighbours : (source : List ℕ) (ts : List Token) → IsSentence written unit ts → MayBegin (token_pieces source ts)
all_neighbours source [] s = tt
all_neighbours source (t ∷ ts) s = neighbours source t ts (numbers_apart (t ∷ ts) s) (starts_apart (t ∷ ts) s)

-- ---- what is between two tokens is no shorter

one_at_least : (trivia : List ℕ) → (trivia ≡ [] → ⊥) → 1 ≤ width trivia
one_at_least [] n = absurd (n refl)
one_at_least (c ∷ cs) n = omega (arith, past (c ∷ cs) cs (c, [], refl))

space_width : width (32 ∷ []) ≡ 1
unfolding encode_utf8
space_width = refl

gap_least : (k j : Kind) (w trivia v more : List ℕ) → IsToken k w (trivia ++ (v ++ more)) → IsToken j v more
    → MayPrecede k.class j.class → width (gap k.class v) ≤ width trivia
gap_least k j w trivia [] more i g m = absurd (token_starts false j [] more g)
gap_least k j w trivia (x ∷ xs) more i g m = go (goes_on k.class x) refl
  where
    start_among : (c : ℕ) → c ≡ TemplateArgsStart → is_among c template_starts ≡ true
    start_among c e = ap (λ a. is_among a template_starts) e

    nothing : goes_on k.class x ≡ true → trivia ≡ [] → ⊥
    nothing e q = joins k w x (xs ++ more) (subst (λ t. IsToken k w (t ++ ((x ∷ xs) ++ more))) q i) e
        (λ a b. m.no_number a (next_word j x xs more g b))
        (λ a b. m.no_start (start_among k.class a) (next_less j x xs more g b))

    go : (b : Bool) → goes_on k.class x ≡ b → width (cond b (32 ∷ []) []) ≤ width trivia
    go true e = let some = one_at_least trivia (nothing e) in omega (arith, some, space_width)
    go false e = omega arith

joined_least : (text : List ℕ) (ks : List Kind) (ps : List Piece) → Tokens text ks ps → (k : Kind) (w : List ℕ)
    → IsToken k w text → MayFollow k.class ps → width (joined k.class ps) ≤ width text
joined_least _ _ _ (no_token text e) k w i m = omega arith
joined_least _ _ _ (one_token trivia v rest j ks ps p g r) k w i m =
    let space = gap_least k j w trivia v rest i g m.0 in
    let others = joined_least rest ks ps r j v g m.1 in
    omega (
      arith,
      space,
      others,
      width-append (gap k.class v) (v ++ joined j.class ps),
      width-append v (joined j.class ps),
      width-append trivia (v ++ rest),
      width-append v rest,
    )

-- all tokens of a text
pub all_least : (text : List ℕ) (ks : List Kind) (ps : List Piece) → Tokens text ks ps → MayBegin ps
    → width (joined SymSemicolon ps) ≤ width text
all_least _ _ _ (no_token text e) m = omega arith
all_least _ _ _ (one_token trivia v rest j ks ps p g r) m =
    let others = joined_least rest ks ps r j v g m in
    omega (
      arith,
      others,
      width-append v (joined j.class ps),
      width-append trivia (v ++ rest),
      width-append v rest,
    )

pub least : (source : List ℕ) (ts : List Token) → IsModuleInSyntax (unmarked source)
    → IsTokenList (unmarked source) ts finished → IsLeast source (shortest (unmarked source) ts)
least source ts m h before read other after j same =
    let inner = unmarked source in
    let one = (token_list_unique inner ts before finished finished h read).0 in
    let module_one = (token_list_unique inner m.0 before finished finished m.1 read).0 in
    let fits : MayBegin (token_pieces inner before) = all_neighbours inner before
    (subst (λ us. IsSentence written unit us) module_one m.2) in
    let bound = all_least other (map unplaced after) (token_pieces other after) (tokens other after j)
    (subst MayBegin (sym same) fits) in
    let text : joined SymSemicolon (token_pieces other after) ≡ shortest inner ts =
    ap (joined SymSemicolon) same ∙ ap (shortest inner) (sym one) in
    subst (λ xs. width xs ≤ width other) text bound
