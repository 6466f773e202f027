-- A text that has a token list is read: its pieces are the characters of its tokens and the
-- comments between them.
use Rattle.std.proofs.Common.{◌≡◌, ℕ, ◌+◌, ◌-◌, refl, sym, ap, ap₂, subst, ◌∙◌, List, [], ◌∷◌, ◌++◌, map, take, drop, append-nil, append_assoc, arith}
use Rattle.std.specs.Str.{chars, encode_utf8_all}
use Rattle.std.proofs.lemmas.Str.{encodes-append}
use Rattle.std.proofs.Math.Seq.{drop-append_seam, take-append_seam}
use Rattle.grammar.specs.Tokens.{Token}
use Rattle.grammar.specs.Endings.{Ending.finished}
use Rattle.wgsl_model.specs.Tokens.Kind.{Kind}
use Rattle.wgsl_model.specs.Tokens.TokenList.{IsTokenList, width, place}
use Rattle.wgsl_model.specs.Tokens.Trivia.{outside, after_trivia}
use Rattle.wgsl_model_tidy.specs.Kept.{unplaced}
use Rattle.wgsl_model_tidy.specs.Pieces.{Piece, comments, between, pieces_from, pieces}
use Rattle.wgsl_theory_grammar.proofs.Tokens.Cuts.{EndsWith}
use Rattle.wgsl_theory_grammar.proofs.Tokens.Widths.{width-append}
use Rattle.wgsl_theory_tidy.proofs.Kept.Encoded.{decoded}
use Rattle.wgsl_theory_tidy.proofs.Kept.Readings.{token_piece, Reads, reads_end, reads_token}
use Rattle.wgsl_theory_tidy.proofs.Kept.TokenTexts.{TokenCut}
use Rattle.wgsl_theory_tidy.proofs.Kept.Walk.{Walk, walk_end, walk_token, walked}

-- the characters from one place up to another
between_at : (source before middle rest : List ℕ) (from to : ℕ) → source ≡ before ++ (middle ++ rest)
    → from ≡ width before → to ≡ width before + width middle → between source from to ≡ middle
between_at source before middle rest from to e f t =
    let bytes : encode_utf8_all source ≡ encode_utf8_all before ++ (encode_utf8_all middle ++ encode_utf8_all rest) =
    ap encode_utf8_all e ∙ encodes-append before (middle ++ rest)
    ∙ ap (λ xs. encode_utf8_all before ++ xs) (encodes-append middle rest) in
    let count : to - from ≡ width middle = omega (arith, f, t) in
    let left : drop from (encode_utf8_all source) ≡ encode_utf8_all middle ++ encode_utf8_all rest =
    ap₂ drop f bytes ∙ drop-append_seam (encode_utf8_all before) _ in
    ap chars (ap₂ take count left ∙ take-append_seam (encode_utf8_all middle) (encode_utf8_all rest))
    ∙ decoded middle

-- where a text begins that a source ends with
begins_at : (source before text : List ℕ) → source ≡ before ++ text → place (width source) text ≡ width before
begins_at source before text e = omega (arith, ap width e, width-append before text)

-- a token more
read_more : (text from rest : List ℕ) (k : Kind) (ks : List Kind) (ps : List Piece) (front word : List ℕ)
    → (cut : TokenCut text k from rest) → front ≡ cut.trivia → word ≡ cut.word → Reads rest ks ps
    → Reads text (k ∷ ks) (comments (λ n. token_piece k word n ∷ ps) outside 0 front)
read_more text from rest k ks ps front word cut f w h =
    let whole : text ≡ cut.trivia ++ (cut.word ++ rest) = cut.whole ∙ ap (λ xs. cut.trivia ++ xs) cut.begins in
    let passed : after_trivia outside (cut.trivia ++ (cut.word ++ rest)) ≡ cut.word ++ rest =
    ap (after_trivia outside) (sym whole) ∙ cut.passed ∙ cut.begins in
    subst (λ xs. Reads xs (k ∷ ks) (comments (λ n. token_piece k word n ∷ ps) outside 0 front)) (sym whole)
    (subst (Reads (cut.trivia ++ (cut.word ++ rest)) (k ∷ ks))
    (ap₂ (λ xs ys. comments (λ n. token_piece k xs n ∷ ps) outside 0 ys) (sym w) (sym f))
    (reads_token cut.trivia cut.word rest k ks ps passed cut.is_token h))

-- from any place on
read_from : (source text : List ℕ) (ts : List Token) → EndsWith source text → Walk (width source) text ts
    → Reads text (map unplaced ts) (pieces_from source (place (width source) text) ts)
read_from source text ts b (walk_end t none) =
    let all : source ≡ b.0 ++ (text ++ []) = b.1 ∙ ap (λ xs. b.0 ++ xs) (sym (append-nil text)) in
    let same : between source (place (width source) text) (width source) ≡ text =
    between_at source b.0 text [] _ _ all (begins_at source b.0 text b.1) (ap width b.1 ∙ width-append b.0 text) in
    subst (Reads text []) (ap (comments (λ n. []) outside 0) (sym same)) (reads_end text none)
read_from source text ts b (walk_token t from rest k us cut h) =
    let before : source ≡ b.0 ++ (cut.trivia ++ from) = b.1 ∙ ap (λ xs. b.0 ++ xs) cut.whole in
    let here : source ≡ (b.0 ++ cut.trivia) ++ from = before ∙ sym (append_assoc b.0 cut.trivia from) in
    let word : source ≡ (b.0 ++ cut.trivia) ++ (cut.word ++ rest) = here
    ∙ ap (λ xs. (b.0 ++ cut.trivia) ++ xs) cut.begins in
    let following : source ≡ ((b.0 ++ cut.trivia) ++ cut.word) ++ rest = word
    ∙ sym (append_assoc (b.0 ++ cut.trivia) cut.word rest) in
    let at_from = begins_at source (b.0 ++ cut.trivia) from here in
    let at_rest = begins_at source ((b.0 ++ cut.trivia) ++ cut.word) rest following in
    read_more text from rest k (map unplaced us) (pieces_from source (place (width source) rest) us) _ _ cut
    (between_at source b.0 cut.trivia from _ _ before (begins_at source b.0 text b.1)
    (at_from ∙ width-append b.0 cut.trivia))
    (between_at source (b.0 ++ cut.trivia) cut.word rest _ _ word at_from
    (at_rest ∙ width-append (b.0 ++ cut.trivia) cut.word))
    (read_from source rest us (((b.0 ++ cut.trivia) ++ cut.word), following) h)

-- a whole source
pub read : (source : List ℕ) (ts : List Token) → IsTokenList source ts finished
    → Reads source (map unplaced ts) (pieces source ts)
read source ts h =
    let start : place (width source) source ≡ 0 = omega arith in
    subst (λ from. Reads source (map unplaced ts) (pieces_from source from ts)) start
    (read_from source source ts ([], refl) (walked (width source) source ts finished refl h))
