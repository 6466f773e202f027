-- The shortest text of a source, written token by token.
use Rattle.std.proofs.Common.{◌≡◌, ℕ, List, [], ◌∷◌, ◌++◌, drop, take, ◌-◌, refl, sym, ap, ap₂, ◌∙◌, append_assoc, append-nil}
use Rattle.std.specs.Prelude.{slice_range}
use Rattle.std.specs.Str.{IsUtf8, chars}
use Rattle.std.proofs.lemmas.Str.{chars-append, encodes-chars}
use Rattle.grammar.specs.Tokens.{Token}
use Rattle.wgsl_model_tidy.specs.Pieces.{between}
use Rattle.wgsl_model_short.specs.Shortest.{gap, joined, token_pieces}
use Rattle.wgsl_span.specs.declared.Span.{Span}
use Rattle.wgsl_lex_token.specs.declared.kind_table.TokenKind.{TokenKind}
use Rattle.wgsl_lex_token.specs.View.{class_of_kind}
use Rattle.wgsl_format_layout.proofs.TokensCut.{StandsNext}

-- a space, by its bytes
pub space_chars : chars (32 ∷ []) ≡ 32 ∷ []
unfolding chars
space_chars = refl

-- the characters of a part of a source
pub part_chars : (source part : List ℕ) (from to : ℕ) → IsUtf8 source
    → part ≡ slice_range source from to → chars part ≡ between (chars source) from to
part_chars source part from to u e = ap chars e
    ∙ ap (λ bs. chars (take (to - from) (drop from bs))) (sym (encodes-chars source u))

-- what is left to write, by the next token
next_left : (source token : List ℕ) (n : ℕ) (ts us : List Token) (kind : TokenKind) (span : Span) (last : ℕ)
    → IsUtf8 source → StandsNext source n ts kind span → us ≡ drop 1 ts
    → token ≡ slice_range source span.start span.end
    → joined last (token_pieces (chars source) ts)
    ≡ gap last (chars token) ++ (chars token ++ joined (class_of_kind kind) (token_pieces (chars source) us))
next_left source token n ts us kind span last u s rest e =
    let cs = chars source in
    let text : between cs s.first.start s.first.end ≡ chars token =
    ap₂ (λ i j. between cs i j) s.starts s.stops ∙ sym (part_chars source token span.start span.end u e) in
    let others : s.others ≡ us = sym (rest ∙ ap (drop 1) s.whole) in
    ap (λ xs. joined last (token_pieces cs xs)) s.whole
    ∙ ap (λ w. gap last w ++ (w ++ joined s.first.class (token_pieces cs s.others))) text
    ∙ ap₂ (λ k xs. gap last (chars token) ++ (chars token ++ joined k (token_pieces cs xs))) s.class others

-- a token more is written
pub written_more : (source token before gapped after : List ℕ) (space : List ℕ) (n : ℕ) (ts us : List Token)
    (kind : TokenKind) (span : Span) (last : ℕ) (whole : List ℕ)
    → IsUtf8 source → IsUtf8 before → IsUtf8 gapped → StandsNext source n ts kind span → us ≡ drop 1 ts
    → token ≡ slice_range source span.start span.end → chars space ≡ gap last (chars token)
    → gapped ≡ before ++ space → after ≡ gapped ++ token
    → chars before ++ joined last (token_pieces (chars source) ts) ≡ whole
    → chars after ++ joined (class_of_kind kind) (token_pieces (chars source) us) ≡ whole
written_more source token before gapped after space n ts us kind span last whole u v w s rest e g f h done =
    let left = joined (class_of_kind kind) (token_pieces (chars source) us) in
    ap (λ bs. chars bs ++ left) h ∙ ap (λ cs. cs ++ left) (chars-append gapped token w)
    ∙ append_assoc (chars gapped) (chars token) left
    ∙ ap (λ bs. chars bs ++ (chars token ++ left)) f
    ∙ ap (λ cs. cs ++ (chars token ++ left)) (chars-append before space v)
    ∙ append_assoc (chars before) (chars space) (chars token ++ left)
    ∙ ap (λ cs. chars before ++ (cs ++ (chars token ++ left))) g
    ∙ ap (λ cs. chars before ++ cs) (sym (next_left source token n ts us kind span last u s rest e))
    ∙ done

-- after the last one all is written
pub written_none : (source text : List ℕ) (ts : List Token) (last : ℕ) (whole : List ℕ) → ts ≡ []
    → chars text ++ joined last (token_pieces (chars source) ts) ≡ whole → chars text ≡ whole
written_none source text ts last whole none done =
    sym (append-nil (chars text))
    ∙ ap (λ xs. chars text ++ joined last (token_pieces (chars source) xs)) (sym none) ∙ done
