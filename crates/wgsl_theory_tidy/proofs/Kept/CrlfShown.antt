-- Pieces with CR LF in place of each LF are formatted as before: a block comment is written without
-- CR before LF, and no other piece has a line break.
use Rattle.std.proofs.Common.{◌≡◌, ℕ, ◌+◌, ◌==◌, ◌&&◌, ◌||◌, not, Bool, true, false, cond, if◌then◌else◌, refl, sym, ap, ap₂, subst, ◌∙◌, List, [], ◌∷◌, ◌++◌, map}
use Rattle.std.proofs.lemmas.Bool.{eqb-true}
use Rattle.wgsl_model.specs.Tokens.ClassTable.{BlockComment}
use Rattle.wgsl_model.specs.Tokens.Trivia.{first_or_zero}
use Rattle.wgsl_model_tidy.specs.Pieces.{Piece, OpenComment}
use Rattle.wgsl_model_tidy.specs.Roles.{Role, begins_operand, closes, role_of}
use Rattle.wgsl_model_tidy.specs.Layout.{Layout, column_after}
use Rattle.wgsl_model_tidy.specs.Shown.{without_returns, block_shown, shown}
use Rattle.wgsl_model_tidy.specs.Open.{together, LayoutState, start, role_in, after_token}
use Rattle.wgsl_model_tidy.specs.Formatted.{with_crlf}
use Rattle.wgsl_model_tidy.specs.Ahead.{Ahead, is_comment, operand_follows, next_role, after_comment, token_ahead, tokens_ahead}
use Rattle.wgsl_model_tidy.specs.LaidOut.{token, Gap, Spot, is_token, is_line, is_followed, between, gap_before_comment, gap_before_token, gap_before, gap_text, depth_after, comment_last, leads, piece_text, after_piece, laid_from, first_spot, laid_out}
use Rattle.wgsl_theory_tidy.proofs.Laid.{after_comment_at, after_token_at}
use Rattle.wgsl_theory_tidy.proofs.Kept.TextFronts.{by_test}
use Rattle.wgsl_theory_tidy.proofs.Kept.CrlfPieces.{crlf_piece}
use Rattle.wgsl_theory_tidy.proofs.Kept.Relaid.{after_first}
use Rattle.wgsl_theory_tidy.proofs.Kept.ShownTexts.{token_by_class}
use Rattle.wgsl_theory_tidy.proofs.Kept.MeasuredTexts.{AreWrittenSame, inline_same, width_same}

-- ---- the characters of a piece

lf_kept : (xs : List ℕ) → without_returns (10 ∷ xs) ≡ 10 ∷ without_returns xs
lf_kept xs = refl

-- what CR is before LF is left out
pub returns_out : (xs : List ℕ) → without_returns (with_crlf xs) ≡ without_returns xs
returns_out [] = refl
returns_out (x ∷ xs) = go (x == 10) refl (returns_out xs)
  where
    go : (b : Bool) → (x == 10) ≡ b → without_returns (with_crlf xs) ≡ without_returns xs
        → without_returns (cond b (13 ∷ (10 ∷ with_crlf xs)) (x ∷ with_crlf xs)) ≡ without_returns (x ∷ xs)
    go true e h = ap (λ ys. 10 ∷ ys) h
        ∙ subst (λ c. 10 ∷ without_returns xs ≡ without_returns (c ∷ xs)) (sym (eqb-true x 10 e)) refl
    go false e h = ap (λ ys. cond (x == 13 && first_or_zero ys == 10) ys (x ∷ ys)) h

-- a piece is written the same with CR LF in it
abbrev pub IsSame : Piece → Type 0
IsSame p = (front : List ℕ) (begins : Bool) → shown front begins (crlf_piece p) ≡ shown front begins p

abbrev pub AllSame : List Piece → Type 0
AllSame [] = Unit {0}
AllSame (p ∷ ps) = IsSame p × AllSame ps

-- one without line breaks, and a block comment
pub same_without : (p : Piece) → with_crlf p.text ≡ p.text → IsSame p
same_without p e front begins =
    ap (λ (text : List ℕ). shown front begins (record { class = p.class; text = text; line_ends = p.line_ends })) e

pub same_block : (text : List ℕ) (n : ℕ) → IsSame (record { class = BlockComment; text = text; line_ends = n })
same_block text n front begins = ap (block_shown front begins) (returns_out text)

pub same_open : (text : List ℕ) (n : ℕ) → IsSame (record { class = OpenComment; text = text; line_ends = n })
same_open text n front begins = returns_out text

-- ---- what is looked for in pieces that follow

crlf_operand : (ps : List Piece) → operand_follows (map crlf_piece ps) ≡ operand_follows ps
crlf_operand [] = refl
crlf_operand (p ∷ ps) =
    ap (λ b. if is_comment p.class then b else begins_operand (role_of false p.class)) (crlf_operand ps)

crlf_next : (state : LayoutState) (ps : List Piece) → next_role state (map crlf_piece ps) ≡ next_role state ps
crlf_next state [] = refl
crlf_next state (p ∷ ps) = by_test (is_comment p.class) (λ e. rw e (crlf_next state ps))
    (λ e. rw e (ap (role_in state p.class) (crlf_operand ps)))

crlf_followed : (ps : List Piece) → is_followed (map crlf_piece ps) ≡ is_followed ps
crlf_followed [] = refl
crlf_followed (p ∷ ps) = ap (λ b. p.line_ends == 0 && (if is_comment p.class then b else true)) (crlf_followed ps)

-- ---- the tokens ahead

crlf_comment : (layout : Layout) (p : Piece) → IsSame p → (ts : List Ahead)
    → after_comment layout (crlf_piece p) ts ≡ after_comment layout p ts
crlf_comment layout p h [] = refl
crlf_comment layout p h (t ∷ ts) =
    let same : AreWrittenSame p (crlf_piece p) = record { class = refl; text = h [] true } in
    ap₂ (λ (w : ℕ) (i : Bool). record t {
      space = t.space + w;
      ends = t.ends || not i;
      below = t.below || not (p.line_ends == 0);
    } ∷ ts) (width_same layout p (crlf_piece p) same) (inline_same p (crlf_piece p) same)

crlf_token : (p : Piece) → IsSame p → is_comment p.class ≡ false → with_crlf p.text ≡ p.text
crlf_token p h c = sym (token_by_class [] true p.class (with_crlf p.text) p.line_ends c) ∙ h [] true
    ∙ token_by_class [] true p.class p.text p.line_ends c

pub crlf_ahead : (layout : Layout) (ps : List Piece) → AllSame ps → (a : LayoutState)
    → tokens_ahead layout a (map crlf_piece ps) ≡ tokens_ahead layout a ps
crlf_ahead layout [] h a = refl
crlf_ahead layout (p ∷ ps) h a = go (is_comment p.class) refl (crlf_ahead layout ps h.1)
  where
    with : List ℕ → List Piece → Bool → List Ahead
    with text others operand =
        let right = role_in a p.class operand in
        let after = tokens_ahead layout (after_token a 0 p.class right together) others in
        token_ahead layout a right (record { class = p.class; text = text; line_ends = p.line_ends }) after ∷ after

    go : (b : Bool) → is_comment p.class ≡ b
        → ((a : LayoutState) → tokens_ahead layout a (map crlf_piece ps) ≡ tokens_ahead layout a ps)
        → cond b (after_comment layout (crlf_piece p) (tokens_ahead layout a (map crlf_piece ps)))
        (with (with_crlf p.text) (map crlf_piece ps) (operand_follows (map crlf_piece ps)))
        ≡ cond b (after_comment layout p (tokens_ahead layout a ps)) (with p.text ps (operand_follows ps))
    go true c others = ap (after_comment layout (crlf_piece p)) (others a)
        ∙ crlf_comment layout p h.0 (tokens_ahead layout a ps)
    go false c others =
        ap₂ (λ text operand. with text (map crlf_piece ps) operand) (crlf_token p h.0 c) (crlf_operand ps)
        ∙ ap (λ after. token_ahead layout a (role_in a p.class (operand_follows ps)) p after ∷ after)
        (others (after_token a 0 p.class (role_in a p.class (operand_follows ps)) together))

-- ---- the first piece

-- the gap before it, by what follows
abbrev gap_by : Layout → Spot → Role → Piece → Bool → Gap
gap_by layout spot right p followed =
    if is_comment p.class then gap_before_comment spot right p.class (is_token spot.last
    && ((is_line (between layout spot right) && not (closes right)) && followed)) p.line_ends
    else gap_before_token layout spot right p.line_ends

crlf_gap : (layout : Layout) (spot : Spot) (p : Piece) (ps : List Piece)
    → gap_before layout spot (next_role spot.state (map crlf_piece (p ∷ ps))) (crlf_piece p)
    (map crlf_piece ps) ≡ gap_before layout spot (next_role spot.state (p ∷ ps)) p ps
crlf_gap layout spot p ps =
    ap (λ right. gap_by layout spot right p (is_followed (map crlf_piece ps))) (crlf_next spot.state (p ∷ ps))
    ∙ ap (gap_by layout spot (next_role spot.state (p ∷ ps)) p) (crlf_followed ps)

-- the spot after it, by its characters
abbrev spot_by : Layout → Spot → Gap → Role → Piece → List ℕ → Spot
spot_by layout spot gap right p text =
    let depth = depth_after gap spot.state.line in
    let column = column_after layout spot.column (gap_text layout gap ++ text) in
    if is_comment p.class
    then after_comment_at spot depth (comment_last p.class (leads gap spot.last spot.state.last)) column
    else after_token_at layout spot depth p.class right column

crlf_after : (layout : Layout) (spot : Spot) (p : Piece) (ps : List Piece) → IsSame p
    → after_first layout spot (crlf_piece p) (map crlf_piece ps) ≡ after_first layout spot p ps
crlf_after layout spot p ps h =
    let right = next_role spot.state (p ∷ ps) in
    let gap = gap_before layout spot right p ps in
    ap (λ r. after_piece layout spot (gap_before layout spot (next_role spot.state (map crlf_piece (p ∷ ps)))
    (crlf_piece p) (map crlf_piece ps)) r (crlf_piece p)) (crlf_next spot.state (p ∷ ps))
    ∙ ap (λ g. after_piece layout spot g right (crlf_piece p)) (crlf_gap layout spot p ps)
    ∙ ap (spot_by layout spot gap right p) (h _ _)

-- ---- the whole text

laid_same : (layout : Layout) (ps : List Piece) → AllSame ps → (spot : Spot)
    → laid_from layout spot (map crlf_piece ps) ≡ laid_from layout spot ps
laid_same layout [] h spot = refl
laid_same layout (p ∷ ps) h spot =
    let q = crlf_piece p in
    let qs = map crlf_piece ps in
    let gap = gap_before layout spot (next_role spot.state (p ∷ ps)) p ps in
    let new_gap = gap_before layout spot (next_role spot.state (q ∷ qs)) q qs in
    let after = after_first layout spot p ps in
    ap (λ s. gap_text layout new_gap ++ (piece_text layout spot new_gap q ++ laid_from layout s qs))
    (crlf_after layout spot p ps h.0)
    ∙ ap (λ xs. gap_text layout new_gap ++ (piece_text layout spot new_gap q ++ xs)) (laid_same layout ps h.1 after)
    ∙ ap (λ g. gap_text layout g ++ (piece_text layout spot g q ++ laid_from layout after ps))
    (crlf_gap layout spot p ps)
    ∙ ap (λ xs. gap_text layout gap ++ (xs ++ laid_from layout after ps)) (h.0 _ _)

pub laid_out_same : (layout : Layout) (ps : List Piece) → AllSame ps
    → laid_out layout (map crlf_piece ps) ≡ laid_out layout ps
laid_out_same layout ps h =
    ap (λ (ts : List Ahead). laid_from layout (record { state = start; last = token; column = 0; ahead = ts })
    (map crlf_piece ps)) (crlf_ahead layout ps h start)
    ∙ laid_same layout ps h (first_spot layout ps)
