-- A laid-out text has the characters of its source that are not blank space, in the same order.
use Rattle.std.proofs.Common.{◌≡◌, ℕ, Bool, true, false, cond, refl, sym, ap, ap₂, ◌∙◌, List, [], ◌∷◌, ◌++◌, map, append-nil}
use Rattle.std.specs.Prelude.{codes}
use Rattle.grammar.specs.Tokens.{Token}
use Rattle.grammar.specs.Endings.{Ending.finished}
use Rattle.wgsl_model.specs.Tokens.Kind.{Kind}
use Rattle.wgsl_model.specs.Tokens.TokenList.{IsTokenList}
use Rattle.wgsl_model_tidy.specs.Pieces.{Piece, pieces}
use Rattle.wgsl_model_tidy.specs.NonBlank.{non_blank}
use Rattle.wgsl_model_tidy.specs.Roles.{Role, beginning, is}
use Rattle.wgsl_model_tidy.specs.Layout.{Layout}
use Rattle.wgsl_model_tidy.specs.Ahead.{next_role}
use Rattle.wgsl_model_tidy.specs.LaidOut.{Gap, closed, blank, broken, Last, token, line_comment, block_comment, leading_comment, open_comment, Spot, gap_before, gap_text, piece_text, indentation, ending, first_spot, laid_from, laid_out}
use Rattle.wgsl_model_tidy.specs.Kept.{unplaced}
use Rattle.wgsl_theory_tidy.proofs.Levels.{IsIndent, no_indent, one_space, one_tab, indentation_indent}
use Rattle.wgsl_theory_tidy.proofs.Kept.NonBlankOf.{non_blank_of, joined, joined_of}
use Rattle.wgsl_theory_tidy.proofs.Kept.ShownTexts.{text_non_blank}
use Rattle.wgsl_theory_tidy.proofs.Kept.Readings.{token_piece, Reads, reads_end, reads_token}
use Rattle.wgsl_theory_tidy.proofs.Kept.Read.{read}
use Rattle.wgsl_theory_tidy.proofs.Kept.Relaid.{after_first}
use Rattle.wgsl_theory_tidy.proofs.Kept.Trails.{trail, last_trail}
use Rattle.wgsl_theory_tidy.proofs.Kept.LaidText.{has_characters}

-- ---- a text has those of its pieces

pub read_same : (text : List ℕ) (ks : List Kind) (ps : List Piece) → Reads text ks ps → non_blank text ≡ non_blank_of ps
read_same _ _ _ (reads_end text e) =
    let t = last_trail text e 0 in
    t.4 ∙ ap non_blank_of (sym (t.3 (λ n. []) ∙ append-nil t.0))
read_same _ _ _ (reads_token trivia w rest k ks ps p i r) =
    let t = trail trivia (w ++ rest) p (has_characters k w rest i) 0 in
    let word : non_blank (w ++ rest) ≡ non_blank w ++ non_blank_of ps = joined w rest
    ∙ ap (λ xs. non_blank w ++ xs) (read_same rest ks ps r) in
    joined trivia (w ++ rest)
    ∙ ap₂ (λ xs ys. xs ++ ys) t.4 word
    ∙ sym (joined_of t.0 (token_piece k w t.1 ∷ ps))
    ∙ ap non_blank_of (sym (t.3 (λ n. token_piece k w n ∷ ps)))

-- ---- nothing but blank space is written between pieces

indent_blank : (xs : List ℕ) → IsIndent xs → non_blank xs ≡ []
indent_blank _ (no_indent) = refl
indent_blank _ (one_space xs h) = indent_blank xs h
indent_blank _ (one_tab xs h) = indent_blank xs h

gap_blank : (layout : Layout) (gap : Gap) → non_blank (gap_text layout gap) ≡ []
gap_blank layout closed = refl
gap_blank layout blank = refl
gap_blank layout (broken true depth) = indent_blank (indentation layout depth) (indentation_indent layout depth)
gap_blank layout (broken false depth) = indent_blank (indentation layout depth) (indentation_indent layout depth)

line_or_nothing : (b : Bool) → non_blank (cond b [] (codes "\n")) ≡ []
line_or_nothing true = refl
line_or_nothing false = refl

ending_blank : (last : Last) (left : Role) → non_blank (ending last left) ≡ []
ending_blank token left = line_or_nothing (is left beginning)
ending_blank line_comment left = refl
ending_blank block_comment left = refl
ending_blank leading_comment left = refl
ending_blank open_comment left = refl

pub laid_same : (layout : Layout) (spot : Spot) (ps : List Piece)
    → non_blank (laid_from layout spot ps) ≡ non_blank_of ps
laid_same layout spot [] = ending_blank spot.last spot.state.last
laid_same layout spot (p ∷ ps) =
    let gap = gap_before layout spot (next_role spot.state (p ∷ ps)) p ps in
    let text = piece_text layout spot gap p in
    let rest = laid_from layout (after_first layout spot p ps) ps in
    joined (gap_text layout gap) (text ++ rest)
    ∙ ap (λ xs. xs ++ non_blank (text ++ rest)) (gap_blank layout gap)
    ∙ joined text rest
    ∙ ap₂ (λ xs ys. xs ++ ys) (text_non_blank layout spot gap p) (laid_same layout (after_first layout spot p ps) ps)

-- ---- a laid-out text

pub same_characters : (layout : Layout) (source : List ℕ) (ts : List Token)
    → IsTokenList source ts finished → non_blank (laid_out layout (pieces source ts)) ≡ non_blank source
same_characters layout source ts h = laid_same layout (first_spot layout (pieces source ts)) (pieces source ts)
    ∙ sym (read_same source (map unplaced ts) (pieces source ts) (read source ts h))
