-- How a text is read where only its tokens count: the characters of each.
use Rattle.std.proofs.Common.{◌≡◌, ℕ, ◌+◌, ◌-◌, refl, sym, ap, ap₂, subst, ◌∙◌, List, [], ◌∷◌, ◌++◌, map, take, drop, append_assoc, arith}
use Rattle.std.specs.Str.{chars, encode_utf8_all}
use Rattle.std.proofs.lemmas.Str.{encodes-append}
use Rattle.std.proofs.Math.Seq.{drop-append_seam, take-append_seam}
use Rattle.grammar.specs.Tokens.{Token}
use Rattle.grammar.specs.Endings.{Ending.finished}
use Rattle.wgsl_model.specs.Tokens.Kind.{Kind}
use Rattle.wgsl_model.specs.Tokens.TokenList.{IsTokenList, width, place}
use Rattle.wgsl_model.specs.Tokens.Trivia.{outside, after_trivia}
use Rattle.wgsl_model_tidy.specs.Kept.{unplaced}
use Rattle.wgsl_model_tidy.specs.Pieces.{Piece, between}
use Rattle.wgsl_theory_grammar.proofs.Tokens.Cuts.{EndsWith}
use Rattle.wgsl_theory_grammar.proofs.Tokens.Widths.{width-append}
use Rattle.wgsl_theory_tidy.proofs.Kept.Encoded.{decoded}
use Rattle.wgsl_theory_tidy.proofs.Kept.LaidTokens.{same_token}
use Rattle.wgsl_theory_tidy.proofs.Kept.Readings.{IsToken, token_piece}
use Rattle.wgsl_theory_tidy.proofs.Kept.TokenTexts.{TokenCut}
use Rattle.wgsl_theory_tidy.proofs.Kept.Walk.{Walk, walk_end, walk_token, walked}
use Rattle.wgsl_model_short.specs.Shortest.{token_pieces}

-- a text has tokens of these kinds with these characters
pub data Tokens : List ℕ → List Kind → List Piece → Type 0 where
  no_token : (text : List ℕ) → after_trivia outside text ≡ [] → Tokens text [] []
  one_token : (trivia w rest : List ℕ) (k : Kind) (ks : List Kind) (ps : List Piece)
      → after_trivia outside (trivia ++ (w ++ rest)) ≡ w ++ rest → IsToken k w rest → Tokens rest ks ps
      → Tokens (trivia ++ (w ++ rest)) (k ∷ ks) (token_piece k w 0 ∷ ps)

-- it has them in one way
pub tokens_once : (text : List ℕ) (ks : List Kind) (ps : List Piece) → Tokens text ks ps
    → (out : List ℕ) (js : List Kind) (qs : List Piece) → Tokens out js qs → out ≡ text → js ≡ ks → qs ≡ ps
tokens_once _ _ _ (no_token text e) _ _ _ (no_token out f) q s = refl
tokens_once _ _ _ (no_token text e) _ _ _ (one_token trivia w rest k ks ps p i r) q s = absurd cc
tokens_once _ _ _ (one_token trivia w rest k ks ps p i r) _ _ _ (no_token out f) q s = absurd cc
tokens_once _ _ _ (one_token trivia w rest k ks ps p i r) _ _ _ (one_token other v more j js qs o g x) q s =
    let kind : j ≡ k = cc in
    let kinds : js ≡ ks = cc in
    let seen : v ++ more ≡ w ++ rest = sym o ∙ ap (after_trivia outside) q ∙ p in
    let same = same_token k v more w rest (subst (λ (m : Kind). IsToken m v more) kind g) i seen in
    let left : qs ≡ ps = tokens_once rest ks ps r more js qs x same.1 kinds in
    ap (λ (m : Kind). token_piece m v 0 ∷ qs) kind ∙ ap (λ u. token_piece k u 0 ∷ qs) same.0
    ∙ ap (λ us. token_piece k w 0 ∷ us) left

-- ---- the tokens of a source

-- the characters from one place up to another
between_at : (source before middle rest : List ℕ) (from to : ℕ) → source ≡ before ++ (middle ++ rest)
    → from ≡ width before → to ≡ width before + width middle → between source from to ≡ middle
between_at source before middle rest from to e f t =
    let bytes : encode_utf8_all source ≡ encode_utf8_all before ++ (encode_utf8_all middle ++ encode_utf8_all rest) =
    ap encode_utf8_all e ∙ encodes-append before (middle ++ rest)
    ∙ ap (λ xs. encode_utf8_all before ++ xs) (encodes-append middle rest) in
    let count : to - from ≡ width middle = omega (arith, f, t) in
    let left : drop from (encode_utf8_all source) ≡ encode_utf8_all middle ++ encode_utf8_all rest =
    ap₂ drop f bytes ∙ drop-append_seam (encode_utf8_all before) _ in
    ap chars (ap₂ take count left ∙ take-append_seam (encode_utf8_all middle) (encode_utf8_all rest))
    ∙ decoded middle

-- where a text begins that a source ends with
begins_at : (source before text : List ℕ) → source ≡ before ++ text → place (width source) text ≡ width before
begins_at source before text e = omega (arith, ap width e, width-append before text)

-- a token more
tokens_more : (text from rest : List ℕ) (k : Kind) (ks : List Kind) (ps : List Piece) (word : List ℕ)
    → (cut : TokenCut text k from rest) → word ≡ cut.word → Tokens rest ks ps
    → Tokens text (k ∷ ks) (token_piece k word 0 ∷ ps)
tokens_more text from rest k ks ps word cut w h =
    let whole : text ≡ cut.trivia ++ (cut.word ++ rest) = cut.whole ∙ ap (λ xs. cut.trivia ++ xs) cut.begins in
    let passed : after_trivia outside (cut.trivia ++ (cut.word ++ rest)) ≡ cut.word ++ rest =
    ap (after_trivia outside) (sym whole) ∙ cut.passed ∙ cut.begins in
    subst (λ xs. Tokens xs (k ∷ ks) (token_piece k word 0 ∷ ps)) (sym whole)
    (subst (λ xs. Tokens (cut.trivia ++ (cut.word ++ rest)) (k ∷ ks) (token_piece k xs 0 ∷ ps)) (sym w)
    (one_token cut.trivia cut.word rest k ks ps passed cut.is_token h))

-- from any place on
tokens_from : (source text : List ℕ) (ts : List Token) → EndsWith source text → Walk (width source) text ts
    → Tokens text (map unplaced ts) (token_pieces source ts)
tokens_from source text ts b (walk_end t none) = no_token text none
tokens_from source text ts b (walk_token t from rest k us cut h) =
    let here : source ≡ (b.0 ++ cut.trivia) ++ from =
    b.1 ∙ ap (λ xs. b.0 ++ xs) cut.whole ∙ sym (append_assoc b.0 cut.trivia from) in
    let word : source ≡ (b.0 ++ cut.trivia) ++ (cut.word ++ rest) = here
    ∙ ap (λ xs. (b.0 ++ cut.trivia) ++ xs) cut.begins in
    let following : source ≡ ((b.0 ++ cut.trivia) ++ cut.word) ++ rest = word
    ∙ sym (append_assoc (b.0 ++ cut.trivia) cut.word rest) in
    tokens_more text from rest k (map unplaced us) (token_pieces source us) _ cut
    (between_at source (b.0 ++ cut.trivia) cut.word rest _ _ word (begins_at source (b.0 ++ cut.trivia) from here)
    (begins_at source ((b.0 ++ cut.trivia) ++ cut.word) rest following ∙ width-append (b.0 ++ cut.trivia) cut.word))
    (tokens_from source rest us (((b.0 ++ cut.trivia) ++ cut.word), following) h)

-- a whole source
pub tokens : (source : List ℕ) (ts : List Token) → IsTokenList source ts finished
    → Tokens source (map unplaced ts) (token_pieces source ts)
tokens source ts h = tokens_from source source ts ([], refl) (walked (width source) source ts finished refl h)
