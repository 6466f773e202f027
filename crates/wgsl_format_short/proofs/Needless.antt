-- The minified text of a source, written token by token.
use Rattle.std.proofs.Common.{◌≡◌, ℕ, Bool, true, false, cond, List, [], ◌∷◌, ◌++◌, drop, map, Option, Some, None, refl, sym, ap, ap₂, subst, ◌∙◌, append-nil, append_assoc}
use Rattle.std.specs.Prelude.{slice_range, MatchOption}
use Rattle.std.specs.Str.{IsUtf8, chars}
use Rattle.grammar.specs.Tokens.{Token}
use Rattle.std.proofs.lemmas.Str.{chars-append}
use Rattle.wgsl_model_tidy.specs.Pieces.{Piece, between}
use Rattle.wgsl_model_short.specs.Shortest.{gap, joined}
use Rattle.wgsl_model_short.specs.Respelled.{is_needless, short_pieces, short_text, without_needless}
use Rattle.wgsl_span.specs.declared.Span.{Span}
use Rattle.wgsl_lex_token.specs.declared.kind_table.TokenKind.{TokenKind}
use Rattle.wgsl_lex_token.specs.View.{class_of_kind}
use Rattle.wgsl_lexer.specs.TextTokens.{StartWithKind}
use Rattle.wgsl_format_layout.proofs.TokensCut.{StandsNext}
use Rattle.wgsl_format_short.specs.Spelled.{two_classes}
use Rattle.wgsl_format_short.proofs.Written.{part_chars}

-- ---- the tokens beside one

abbrev IsKindOf : Option TokenKind → List Token → Type 0
IsKindOf o ts = MatchOption o (ts ≡ []) (StartWithKind ts)

by_kinds : (before class : ℕ) (us : List Token) (next after : Option TokenKind) → IsKindOf next us
    → IsKindOf after (drop 1 us)
    → is_needless before class (two_classes next after) ≡ is_needless before class (map (λ (t : Token). t.class) us)
by_kinds before class [] None after n a = refl
by_kinds before class [] (Some k) after n a = absurd n
by_kinds before class (u ∷ us) None after n a = absurd (let e = n in cc)
by_kinds before class (u ∷ []) (Some k) None n a = refl
by_kinds before class (u ∷ []) (Some k) (Some j) n a = absurd a
by_kinds before class (u ∷ (v ∷ us)) (Some k) None n a = absurd (let e = a in cc)
by_kinds before class (u ∷ (v ∷ us)) (Some k) (Some j) n a =
    sym (ap₂ (λ d e. is_needless before class (d ∷ (e ∷ []))) n a)

pub needless_by : (before class : ℕ) (us vs : List Token) (next after : Option TokenKind) (b : Bool)
    → vs ≡ drop 1 us → IsKindOf next us → IsKindOf after vs
    → b ≡ is_needless before class (two_classes next after)
    → b ≡ is_needless before class (map (λ (t : Token). t.class) us)
needless_by before class us vs next after b e n a h = h ∙ by_kinds before class us next after n
    (subst (IsKindOf after) e a)

-- ---- a token more

piece_classes : (source : List ℕ) (ts : List Token)
    → map (λ (p : Piece). p.class) (short_pieces source ts) ≡ map (λ (t : Token). t.class) ts
piece_classes source [] = refl
piece_classes source (t ∷ ts) = ap (λ cs. t.class ∷ cs) (piece_classes source ts)

abbrev pub left_after : List ℕ → ℕ → List Token → List Piece
left_after source class ts = without_needless (λ (p : Piece). p.class) class (short_pieces source ts)

-- what is written of a token and those after it
abbrev pub written_of : List ℕ → ℕ → Bool → List ℕ → ℕ → List Token → List ℕ
written_of source last b text class ts = cond b (joined last (left_after source class ts))
    (gap last text ++ (text ++ joined class (left_after source class ts)))

one_more : (source : List ℕ) (last before : ℕ) (t : Token) (ts : List Token) (b : Bool)
    → is_needless before t.class (map (λ (p : Piece). p.class) (short_pieces source ts)) ≡ b
    → joined last (left_after source before (t ∷ ts))
    ≡ written_of source last b (short_text t (between source t.start t.end)) t.class ts
one_more source last before t ts b e =
    ap (λ x. joined last (cond x (left_after source t.class ts) (piece ∷ left_after source t.class ts))) e ∙ go b
  where
    piece : Piece
    piece = record { class = t.class; text = short_text t (between source t.start t.end); line_ends = 0 }

    go : (x : Bool) → joined last (cond x (left_after source t.class ts) (piece ∷ left_after source t.class ts))
        ≡ written_of source last x (short_text t (between source t.start t.end)) t.class ts
    go true = refl
    go false = refl

pub minified_left : (source token text : List ℕ) (n : ℕ) (ts us : List Token) (kind : TokenKind) (span : Span)
    (last before : ℕ) (b : Bool) → IsUtf8 source → StandsNext source n ts kind span → us ≡ drop 1 ts
    → token ≡ slice_range source span.start span.end
    → ((t : Token) (rest : List Token) → ts ≡ t ∷ rest → short_text t (chars token) ≡ text)
    → b ≡ is_needless before (class_of_kind kind) (map (λ (t : Token). t.class) us)
    → joined last (left_after (chars source) before ts)
    ≡ written_of (chars source) last b text (class_of_kind kind) us
minified_left source token text n ts us kind span last before b u s rest e other h =
    let cs = chars source in
    let here : between cs s.first.start s.first.end ≡ chars token =
    ap₂ (λ i j. between cs i j) s.starts s.stops ∙ sym (part_chars source token span.start span.end u e) in
    let others : s.others ≡ us = sym (rest ∙ ap (drop 1) s.whole) in
    let needless : is_needless before s.first.class (map (λ (p : Piece). p.class) (short_pieces cs s.others)) ≡ b =
    ap (is_needless before s.first.class) (piece_classes cs s.others)
    ∙ ap₂ (λ c vs. is_needless before c (map (λ (t : Token). t.class) vs)) s.class others ∙ sym h in
    let spelled : short_text s.first (between cs s.first.start s.first.end) ≡ text =
    ap (short_text s.first) here ∙ other s.first s.others s.whole in
    ap (λ xs. joined last (left_after cs before xs)) s.whole
    ∙ one_more cs last before s.first s.others b needless
    ∙ ap (λ w. written_of cs last b w s.first.class s.others) spelled
    ∙ ap₂ (λ c vs. written_of cs last b text c vs) s.class others

-- its characters are written after what is between
pub pushed : (before gapped after space token : List ℕ) (last kind : ℕ) (needless : Bool) → IsUtf8 before
    → IsUtf8 gapped → needless ≡ false → gapped ≡ before ++ space → after ≡ gapped ++ token
    → chars space ≡ gap last (chars token) → (ps : List Piece)
    → chars after ++ joined kind ps ≡ chars before ++ cond needless (joined last ps)
    (gap last (chars token) ++ (chars token ++ joined kind ps))
pushed before gapped after space token last kind needless v w n f h g ps =
    let left = joined kind ps in
    ap (λ bs. chars bs ++ left) h ∙ ap (λ cs. cs ++ left) (chars-append gapped token w)
    ∙ append_assoc (chars gapped) (chars token) left
    ∙ ap (λ bs. chars bs ++ (chars token ++ left)) f
    ∙ ap (λ cs. cs ++ (chars token ++ left)) (chars-append before space v)
    ∙ append_assoc (chars before) (chars space) (chars token ++ left)
    ∙ ap (λ cs. chars before ++ (cs ++ (chars token ++ left))) g
    ∙ ap (λ b. chars before ++ cond b (joined last ps) (gap last (chars token) ++ (chars token ++ left))) (sym n)

-- after the last one all is written
pub minified_none : (source text : List ℕ) (ts : List Token) (last before : ℕ) (whole : List ℕ) → ts ≡ []
    → chars text ++ joined last (left_after source before ts) ≡ whole → chars text ≡ whole
minified_none source text ts last before whole none done =
    sym (append-nil (chars text))
    ∙ ap (λ xs. chars text ++ joined last (left_after source before xs)) (sym none) ∙ done
