-- The minified text of a printed module has its pieces and derives it, and none with these is shorter.
use Rattle.std.proofs.Common.{◌≡◌, ℕ, ◌≤◌, Bool, true, false, cond, refl, sym, ap, ap₂, subst, ◌∙◌, List, [], ◌∷◌, map}
use Rattle.grammar.specs.Tokens.{Token}
use Rattle.grammar.specs.Endings.{Ending.finished}
use Rattle.grammar.specs.Grammar.{Mode.checking, Derives}
use Rattle.grammar.proofs.Reading.Depth.{loosen}
use Rattle.wgsl_model.specs.Tokens.ClassTable.{SymSemicolon}
use Rattle.wgsl_model.specs.Tokens.Kind.{Kind, placed}
use Rattle.wgsl_model.specs.Tokens.TokenList.{IsTokenList, width}
use Rattle.wgsl_model.specs.Trees.Units.{TranslationUnit}
use Rattle.wgsl_model.specs.Trees.StatementsWithoutSpans.{bare_unit}
use Rattle.wgsl_model.specs.Grammar.Symbols.{Symbol.unit}
use Rattle.wgsl_model.specs.Grammar.Written.{written}
use Rattle.wgsl_theory_grammar.proofs.Tokens.Lists.{token_list_unique}
use Rattle.wgsl_theory_templates.proofs.Lexed.Runs.{lexed}
use Rattle.wgsl_model_tidy.specs.Kept.{unplaced}
use Rattle.wgsl_model_tidy.specs.Pieces.{Piece}
use Rattle.wgsl_theory_tidy.proofs.Moved.Moved.{moved_unit}
use Rattle.wgsl_model_short.specs.Shortest.{joined, token_pieces}
use Rattle.wgsl_model_short.specs.Respelled.{is_needless, without_needless, short_pieces, minified_pieces, minified, IsMinifiedText}
use Rattle.wgsl_theory_short.proofs.Joined.{joined_along, joined_tokens}
use Rattle.wgsl_theory_short.proofs.Least.{MayBegin, all_least, all_neighbours}
use Rattle.wgsl_theory_short.proofs.Needless.{AtStart, class_of, kept_tokens, unit_stays}
use Rattle.wgsl_theory_short.proofs.NeedlessShape.{kind_class, kept_after, written_shape}
use Rattle.wgsl_theory_short.proofs.Reading.{Tokens, tokens, tokens_once}
use Rattle.wgsl_theory_short.proofs.Spaced.{AreTokens, are_tokens, short_tokens, spaced, spaced_tokens}

-- ---- what stays of kinds and of pieces

abbrev piece_class : Piece → ℕ
piece_class p = p.class

same_classes : (ks : List Kind) (ps : List Piece) → AreTokens ks ps → map piece_class ps ≡ map kind_class ks
same_classes [] [] h = refl
same_classes [] (p ∷ ps) h = absurd h
same_classes (k ∷ ks) [] h = absurd h
same_classes (k ∷ ks) (p ∷ ps) h = ap₂ (λ c cs. c ∷ cs) (ap piece_class h.0.same) (same_classes ks ps h.1)

kept_both : (last : ℕ) (ks : List Kind) (ps : List Piece) → AreTokens ks ps
    → AreTokens (kept_after last ks) (without_needless piece_class last ps)
kept_both last [] [] h = tt
kept_both last [] (p ∷ ps) h = absurd h
kept_both last (k ∷ ks) [] h = absurd h
kept_both last (k ∷ ks) (p ∷ ps) h =
    subst (λ c. AreTokens (kept_after last (k ∷ ks)) (cond (is_needless last c (map piece_class ps))
    (without_needless piece_class c ps) (p ∷ without_needless piece_class c ps)))
    (sym (ap piece_class h.0.same))
    (subst (λ cs. AreTokens (kept_after last (k ∷ ks)) (cond (is_needless last k.class cs)
    (without_needless piece_class k.class ps) (p ∷ without_needless piece_class k.class ps)))
    (sym (same_classes ks ps h.1))
    (go (is_needless last k.class (map kind_class ks)) (kept_both k.class ks ps h.1)))
  where
    go : (b : Bool) → AreTokens (kept_after k.class ks) (without_needless piece_class k.class ps)
        → AreTokens (cond b (kept_after k.class ks) (k ∷ kept_after k.class ks))
        (cond b (without_needless piece_class k.class ps) (p ∷ without_needless piece_class k.class ps))
    go true i = i
    go false i = (h.0, i)

-- ---- tokens at one place

abbrev at_start : List Token → List Token
at_start ts = map (λ t. placed (unplaced t) 0 0) ts

all_at_start : (ts : List Token) → AtStart (at_start ts)
all_at_start [] = tt
all_at_start (t ∷ ts) = ((refl, refl), all_at_start ts)

start_kinds : (ts : List Token) → map unplaced (at_start ts) ≡ map unplaced ts
start_kinds [] = refl
start_kinds (t ∷ ts) = ap (λ ks. unplaced t ∷ ks) (start_kinds ts)

token_classes : (ts : List Token) → map kind_class (map unplaced ts) ≡ map class_of ts
token_classes [] = refl
token_classes (t ∷ ts) = ap (λ cs. t.class ∷ cs) (token_classes ts)

-- the kinds of the tokens that stay
kept_kinds : (last : ℕ) (ts : List Token) → map unplaced (without_needless class_of last ts)
    ≡ kept_after last (map unplaced ts)
kept_kinds last [] = refl
kept_kinds last (t ∷ ts) =
    go (is_needless last t.class (map class_of ts)) (kept_kinds t.class ts)
    ∙ ap (λ cs. cond (is_needless last t.class cs) (kept_after t.class (map unplaced ts))
    (unplaced t ∷ kept_after t.class (map unplaced ts))) (sym (token_classes ts))
  where
    go : (b : Bool) → map unplaced (without_needless class_of t.class ts) ≡ kept_after t.class (map unplaced ts)
        → map unplaced (cond b (without_needless class_of t.class ts) (t ∷ without_needless class_of t.class ts))
        ≡ cond b (kept_after t.class (map unplaced ts)) (unplaced t ∷ kept_after t.class (map unplaced ts))
    go true e = e
    go false e = ap (λ ks. unplaced t ∷ ks) e

-- a module is derived from what stays of its tokens
derived_again : (u : TranslationUnit) (ts us : List Token) → Derives checking written unit u ts
    → map unplaced us ≡ kept_after SymSemicolon (map unplaced ts)
    → (w : TranslationUnit) × Derives checking written unit w us × (bare_unit w ≡ bare_unit u)
derived_again u ts us d e =
    let there = moved_unit u ts (at_start ts) d (start_kinds ts) in
    let kept = unit_stays there.0 (at_start ts) there.1 (all_at_start ts) in
    let same : map unplaced us ≡ map unplaced (kept_tokens (at_start ts)) =
    e ∙ ap (kept_after SymSemicolon) (sym (start_kinds ts)) ∙ sym (kept_kinds SymSemicolon (at_start ts)) in
    let here = moved_unit there.0 (kept_tokens (at_start ts)) us kept same in
    (here.0, here.1, here.2 ∙ there.2)

-- ---- the text

pub minified_text : (source : List ℕ) (u : TranslationUnit) (ts : List Token) → IsTokenList source ts finished
    → Derives checking written unit u ts → IsMinifiedText source (minified source ts)
minified_text source u ts h d =
    let ps = minified_pieces source ts in
    let ks = kept_after SymSemicolon (map unplaced ts) in
    let out = minified source ts in
    let all = are_tokens source (map unplaced ts) (token_pieces source ts) (tokens source ts h) in
    let whole : Tokens (spaced ps) ks ps = spaced_tokens ks ps
    (kept_both SymSemicolon (map unplaced ts) (short_pieces source ts) (short_tokens source ts all)) in
    let found = lexed ks (written_shape source u ts h d SymSemicolon) (width out) out
    (joined_along (spaced ps) ks ps whole SymSemicolon) in
    let us = found.0 in
    let same : token_pieces out us ≡ ps = tokens_once out ks ps (joined_tokens (spaced ps) ks ps whole SymSemicolon)
    out (map unplaced us) (token_pieces out us) (tokens out us found.1) refl found.2 in
    let again = derived_again u ts us d found.2 in
    let fits : MayBegin (token_pieces out us) = all_neighbours out us
    (again.0, loosen checking written unit again.0 us [] again.1) in
    record {
      before = ts;
      after = us;
      read_before = h;
      read_after = found.1;
      joins = refl;
      same_pieces = same;
      units = λ v j.
          (let one = (token_list_unique source j.0 ts finished finished j.1 h).0 in
          let more = derived_again v j.0 us j.2
          (found.2 ∙ ap (λ xs. kept_after SymSemicolon (map unplaced xs)) (sym one)) in
          (more.0, (us, found.1, more.1), more.2));
      least = λ other tokens_of read e.
          subst (λ qs. width (joined SymSemicolon qs) ≤ width other) e
          (all_least other (map unplaced tokens_of) (token_pieces other tokens_of)
          (tokens other tokens_of read) (subst MayBegin (same ∙ sym e) fits));
    }
