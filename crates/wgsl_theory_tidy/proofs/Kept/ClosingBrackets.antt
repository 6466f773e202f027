-- In the laid-out text of a module a closing bracket that begins a line is as deep as the line
-- of its opening bracket.
use Rattle.std.proofs.Common.{◌≡◌, ℕ, Bool, refl, sym, subst, ◌∙◌, List, [], ◌∷◌, ◌++◌, map, append-nil, Some}
use Rattle.grammar.specs.Tokens.{Token}
use Rattle.grammar.specs.Grammar.{IsSentence}
use Rattle.grammar.specs.Endings.{Ending.finished}
use Rattle.wgsl_model.specs.Grammar.Symbols.{Symbol.unit}
use Rattle.wgsl_model.specs.Grammar.Written.{written}
use Rattle.wgsl_model.specs.Tokens.Kind.{Kind}
use Rattle.wgsl_model.specs.Tokens.TokenList.{IsTokenList}
use Rattle.wgsl_model_tidy.specs.Kept.{unplaced}
use Rattle.wgsl_model_tidy.specs.Brackets.{Line, blank, AlignsClosingBrackets}
use Rattle.wgsl_model_tidy.specs.Layout.{Layout}
use Rattle.wgsl_model_tidy.specs.Ahead.{operand_follows}
use Rattle.wgsl_model_tidy.specs.LaidOut.{Spot, first_spot, laid_from, laid_out}
use Rattle.wgsl_model_tidy.specs.Pieces.{Piece, pieces}
use Rattle.wgsl_theory_tidy.proofs.Kept.Read.{read}
use Rattle.wgsl_theory_tidy.proofs.Kept.Readings.{IsToken, token_piece, Reads, reads_end, reads_token}
use Rattle.wgsl_theory_tidy.proofs.Kept.ClosedComments.{AllClosed}
use Rattle.wgsl_theory_tidy.proofs.Kept.Trails.{trail, last_trail}
use Rattle.wgsl_theory_tidy.proofs.Kept.Parted.{token_again}
use Rattle.wgsl_theory_tidy.proofs.Kept.LaidTokens.{no_comment}
use Rattle.wgsl_theory_tidy.proofs.Kept.LaidText.{has_characters, after_parts}
use Rattle.wgsl_theory_tidy.proofs.Kept.NestedTokens.{effect, opened_after, Leads, none_left, one_more, nested_tokens}
use Rattle.wgsl_theory_tidy.proofs.Kept.AlignedComments.{AlignedAfter}
use Rattle.wgsl_theory_tidy.proofs.Kept.AlignedGaps.{Stands, at_start}
use Rattle.wgsl_theory_tidy.proofs.Kept.BracketPairs.{pairs_aligned}
use Rattle.wgsl_theory_tidy.proofs.Kept.AlignedPieces.{Agree, agree_none, comment_step, last_over, after_token, token_step}

-- ---- a text of tokens that open and close brackets in order

-- kinds of tokens, where so much is open
abbrev Nested : List Bool → List Kind → Type 0
Nested marks [] = Unit {0}
Nested marks (k ∷ ks) = (ms : List Bool) × (opened_after (effect k.class) marks ≡ Some ms) × Nested ms ks

nested_kinds : (marks : List Bool) (ts : List Token) → Leads [] [] marks ts → Nested marks (map unplaced ts)
nested_kinds _ _ (none_left) = tt
nested_kinds marks _ (one_more _ next t ts e l) = (next, e, nested_kinds next ts l)

-- comments, and a token after them
trail_over : (layout : Layout) (k : Kind) (w : List ℕ) (n : ℕ) (ps cs : List Piece) → AllClosed cs
    → (marks : List Bool) (ls : List Line)
    → ((spot : Spot) (l : Line) → Stands layout spot marks l → Agree layout marks spot.state.opened ls
    → AlignedAfter spot.last l ls (laid_from layout spot (token_piece k w n ∷ ps)))
    → (spot : Spot) (l : Line) → Stands layout spot marks l → Agree layout marks spot.state.opened ls
    → AlignedAfter spot.last l ls (laid_from layout spot (cs ++ (token_piece k w n ∷ ps)))
trail_over layout k w n ps [] h marks ls next spot l s a = next spot l s a
trail_over layout k w n ps (c ∷ cs) h marks ls next spot l s a =
    comment_step layout spot c.class c.text c.line_ends (cs ++ (token_piece k w n ∷ ps)) h.0 marks l
    ls s (λ m t. trail_over layout k w n ps cs h.1 marks ls next _ m t a)

aligned : (layout : Layout) (text : List ℕ) (ks : List Kind) (ps : List Piece) → Reads text ks ps
    → (marks : List Bool) → Nested marks ks → (spot : Spot) (l : Line) (ls : List Line)
    → Stands layout spot marks l → Agree layout marks spot.state.opened ls
    → AlignedAfter spot.last l ls (laid_from layout spot ps)
aligned layout _ _ _ (reads_end text e) marks h spot l ls s a =
    let t = last_trail text e 0 in
    subst (λ ps. AlignedAfter spot.last l ls (laid_from layout spot ps))
    (sym (t.3 (λ n. []) ∙ append-nil t.0)) (last_over layout t.0 t.2 spot marks l ls s)
aligned layout _ _ _ (reads_token trivia w rest k ks ps p i r) marks h spot l ls s a =
    let t = trail trivia (w ++ rest) p (has_characters k w rest i) 0 in
    let again : (at : Spot) → IsToken k w (laid_from layout (after_token layout at k.class w t.1 ps) ps) =
    λ at. token_again at.state k (operand_follows ps) w rest
    (laid_from layout (after_token layout at k.class w t.1 ps) ps) i
    (λ d. after_parts layout rest ks ps r (after_token layout at k.class w t.1 ps) w refl d) in
    subst (λ all. AlignedAfter spot.last l ls (laid_from layout spot all))
    (sym (t.3 (λ n. token_piece k w n ∷ ps)))
    (trail_over layout k w t.1 ps t.0 t.2 marks ls
    (λ at m u b. token_step layout at k w t.1 ps (no_comment k w rest i) (again at) marks h.0 m ls h.1 b u
    (λ x ns v c. aligned layout rest ks ps r h.0 h.2 (after_token layout at k.class w t.1 ps) x ns v c))
    spot l s a)

pub closing_brackets : (layout : Layout) (source : List ℕ) (ts : List Token)
    → IsTokenList source ts finished → IsSentence written unit ts
    → AlignsClosingBrackets (laid_out layout (pieces source ts))
closing_brackets layout source ts h m =
    pairs_aligned (laid_out layout (pieces source ts))
    (aligned layout source (map unplaced ts) (pieces source ts) (read source ts h) [] (nested_kinds [] ts
    (nested_tokens ts m)) (first_spot layout (pieces source ts)) (blank []) []
    (at_start refl refl refl refl) (agree_none [] []))
