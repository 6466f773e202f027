-- The shortest text of a source keeps its tokens, and the unit of a module.
use Rattle.std.proofs.Common.{◌≡◌, ℕ, ◌==◌, Bool, true, false, refl, sym, ap, subst, ◌∙◌, List, [], ◌∷◌, ◌++◌, map, Some}
use Rattle.std.proofs.lemmas.Bool.{eqb-true}
use Rattle.unicode_ident.specs.Ident.{is_xid_start}
use Rattle.unicode_ident.proofs.Computing.{unicode_ident}
use Rattle.grammar.specs.Tokens.{Token}
use Rattle.grammar.specs.Endings.{Ending.finished}
use Rattle.wgsl_model.specs.Tokens.ClassTable.{SymSemicolon}
use Rattle.wgsl_model.specs.Tokens.Kind.{Kind}
use Rattle.wgsl_model.specs.Tokens.Raw.{kind_of_spelling}
use Rattle.wgsl_model.specs.Tokens.TokenList.{IsTokenList, width}
use Rattle.wgsl_model.specs.Tokens.Trivia.{outside, after_trivia}
use Rattle.wgsl_theory_grammar.proofs.Tokens.Lists.{token_list_unique}
use Rattle.wgsl_theory_templates.proofs.Lexed.Runs.{lexed}
use Rattle.wgsl_model_tidy.specs.Formatted.{mark_of, unmarked}
use Rattle.wgsl_model_tidy.specs.Kept.{unplaced}
use Rattle.wgsl_model_tidy.specs.Pieces.{Piece, pieces}
use Rattle.wgsl_theory_tidy.proofs.Kept.CrlfReads.{read_once}
use Rattle.wgsl_theory_tidy.proofs.Kept.Read.{read}
use Rattle.wgsl_theory_tidy.proofs.Kept.Readings.{IsToken, is_word}
use Rattle.wgsl_theory_tidy.proofs.Kept.SameShape.{same_shape}
use Rattle.wgsl_theory_tidy.proofs.Kept.TokenRoles.{token_starts}
use Rattle.wgsl_theory_tidy.proofs.Moved.Moved.{moved_unit}
use Rattle.wgsl_model_short.specs.Shortest.{joined, token_pieces, shortest}
use Rattle.wgsl_model_short.specs.Shortened.{KeepsTokens}
use Rattle.wgsl_theory_short.proofs.Reading.{Tokens, no_token, one_token, tokens_once, tokens}
use Rattle.wgsl_theory_short.proofs.Joined.{joined_along, joined_tokens, joined_reads}

-- ---- no byte order mark

-- the mark begins no name, no number and no symbol
no_name : is_xid_start 65279 ≡ false
unfolding unicode_ident
no_name = refl

no_value : (ws : List ℕ) (k : Kind) → kind_of_spelling (65279 ∷ ws) ≡ Some k → ⊥
no_value ws k = rw no_name (λ e. absurd cc)

no_word : (k : Kind) (ws rest : List ℕ) → IsToken k (65279 ∷ ws) rest → ⊥
no_word k ws rest (is_word j v r m s e) = no_value ws k s.valued

-- it is no blank space and no comment
mark_left : (cs : List ℕ) → after_trivia outside (65279 ∷ cs) ≡ 65279 ∷ cs
unfolding after_trivia
mark_left cs = refl

no_front : (k : Kind) (w rest cs : List ℕ) → IsToken k w rest → w ++ rest ≡ 65279 ∷ cs → ⊥
no_front k [] rest cs i q = absurd (token_starts false k [] rest i)
no_front k (x ∷ xs) rest cs i q =
    let head : x ≡ 65279 = cc in no_word k xs rest (subst (λ c. IsToken k (c ∷ xs) rest) head i)

unread : (text : List ℕ) (ks : List Kind) (ps : List Piece) (cs : List ℕ) → Tokens text ks ps → text ≡ 65279 ∷ cs → ⊥
unread _ _ _ cs (no_token text e) q =
    let left : 65279 ∷ cs ≡ [] = sym (mark_left cs) ∙ ap (after_trivia outside) (sym q) ∙ e in absurd cc
unread _ _ _ cs (one_token trivia w rest k ks ps p i r) q = no_front k w rest cs i
    (sym p ∙ ap (after_trivia outside) q ∙ mark_left cs)

pub no_mark : (text : List ℕ) (ks : List Kind) (ps : List Piece) → Tokens text ks ps → mark_of text ≡ []
no_mark [] ks ps h = refl
no_mark (c ∷ cs) ks ps h = go (c == 0xFEFF) refl
  where
    go : (b : Bool) → (c == 0xFEFF) ≡ b → mark_of (c ∷ cs) ≡ []
    go true e = absurd (unread (c ∷ cs) ks ps cs h (ap (λ x. x ∷ cs) (eqb-true c 0xFEFF e)))
    go false e = rw e refl

-- ---- the whole text

pub kept : (source : List ℕ) (ts : List Token) → IsTokenList (unmarked source) ts finished
    → KeepsTokens source (shortest (unmarked source) ts)
kept source ts h =
    let inner = unmarked source in
    let out = shortest inner ts in
    let ks = map unplaced ts in
    let ps = token_pieces inner ts in
    let before : Tokens inner ks ps = tokens inner ts h in
    let found = lexed ks (same_shape inner ts h) (width out) out (joined_along inner ks ps before SymSemicolon) in
    let us = found.0 in
    let again = joined_tokens inner ks ps before SymSemicolon in
    let same : token_pieces out us ≡ ps = tokens_once out ks ps again out (map unplaced us) (token_pieces out us)
    (tokens out us found.1) refl found.2 in
    record {
      before = ts;
      after = us;
      read_before = h;
      read_after = found.1;
      no_mark = no_mark out ks ps again;
      same_tokens = found.2;
      same_pieces = read_once out ks ps (joined_reads inner ks ps before SymSemicolon) out
          (map unplaced us) (pieces out us) (read out us found.1) refl found.2;
      again = ap (joined SymSemicolon) same;
      units = λ v j.
          (let one = (token_list_unique inner j.0 ts finished finished j.1 h).0 in
          let moved = moved_unit v j.0 us j.2 (found.2 ∙ ap (map unplaced) (sym one)) in
          (moved.0, (us, found.1, moved.1), moved.2));
    }
