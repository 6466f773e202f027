-- A piece that is formatted, and what is formatted after it.
use Rattle.std.proofs.Common.{◌≡◌, ℕ, Bool, true, false, refl, sym, ap, ◌∙◌, List, ◌∷◌, ◌++◌, append_assoc, drop}
use Rattle.wgsl_model_tidy.specs.Pieces.{Piece}
use Rattle.wgsl_model_tidy.specs.Roles.{Role}
use Rattle.wgsl_model_tidy.specs.Layout.{Layout, column_after}
use Rattle.wgsl_model_tidy.specs.Open.{LayoutState, role_in}
use Rattle.wgsl_model_tidy.specs.Ahead.{Ahead, is_comment, operand_follows, next_role}
use Rattle.wgsl_model_tidy.specs.LaidOut.{Gap, Last, token, Spot, owned, gap_before_comment, gap_before_token, gap_text, depth_after, piece_text, before_next, state_with, leads, comment_last, laid_from}
use Rattle.wgsl_theory_tidy.proofs.Comments.{piece}
use Rattle.wgsl_theory_tidy.proofs.Kept.ShownTexts.{token_text}

-- ---- spots

-- the spot after a comment, in a line of this depth
abbrev pub after_comment_at : Spot → ℕ → Last → ℕ → Spot
after_comment_at spot depth last column =
    record { state = record spot.state { line = depth }; last = last; column = column; ahead = spot.ahead }

-- the spot after a token
abbrev pub after_token_at : Layout → Spot → ℕ → ℕ → Role → ℕ → Spot
after_token_at layout spot depth class right column = record {
  state = state_with layout (before_next spot right) depth column class right spot.ahead;
  last = token;
  column = column;
  ahead = drop 1 spot.ahead;
}

-- ---- a comment

-- a gap and a comment are written, and others are formatted after them
abbrev after_gap : Layout → Spot → Gap → Piece → List Piece → List ℕ
after_gap layout spot gap p ps =
    gap_text layout gap
    ++ (piece_text layout spot gap p ++ laid_from layout (after_comment_at spot
    (depth_after gap spot.state.line) (comment_last p.class (leads gap spot.last spot.state.last))
    (column_after layout spot.column (gap_text layout gap ++ piece_text layout spot gap p))) ps)

comment_laid_here : (layout : Layout) (class : ℕ) → is_comment class ≡ true
    → (spot : Spot) (text : List ℕ) (n : ℕ) (ps : List Piece)
    → laid_from layout spot (piece class text n ∷ ps)
    ≡ after_gap layout spot (gap_before_comment spot (next_role spot.state ps) class
    (owned layout spot (next_role spot.state ps) ps) n) (piece class text n) ps
comment_laid_here layout class h spot text n ps = rw h refl

-- after what is written already
after_written : (written gap text left : List ℕ)
    → written ++ (gap ++ (text ++ left)) ≡ ((written ++ gap) ++ text) ++ left
after_written written gap text left = sym (append_assoc written gap (text ++ left))
    ∙ sym (append_assoc (written ++ gap) text left)

-- the comment and what is formatted after it, after what is written already and the gap
abbrev with_comment : Layout → Spot → List ℕ → Gap → ℕ → List ℕ → List Piece → List ℕ
with_comment layout spot written gap class text ps =
    ((written ++ gap_text layout gap) ++ text)
    ++ laid_from layout (after_comment_at spot (depth_after gap spot.state.line) (comment_last class
    (leads gap spot.last spot.state.last)) (column_after layout spot.column (gap_text layout gap ++ text))) ps

comment_laid : (layout : Layout) (class : ℕ) → is_comment class ≡ true
    → (spot : Spot) (right : Role) (own : Bool) (written text : List ℕ) (n : ℕ) (ps : List Piece) (gap : Gap)
    → next_role spot.state ps ≡ right → owned layout spot right ps ≡ own
    → gap ≡ gap_before_comment spot right class own n
    → written ++ laid_from layout spot (piece class text n ∷ ps)
    ≡ with_comment layout spot written gap class (piece_text layout spot gap (piece class text n)) ps
comment_laid layout class h spot right own written text n ps gap e i g =
    ap (λ cs. written ++ cs) (comment_laid_here layout class h spot text n ps
    ∙ ap (λ r. after_gap layout spot (gap_before_comment spot r class (owned layout spot r ps) n)
    (piece class text n) ps) e
    ∙ ap (λ o. after_gap layout spot (gap_before_comment spot right class o n) (piece class text n) ps) i
    ∙ ap (λ g. after_gap layout spot g (piece class text n) ps) (sym g))
    ∙ after_written written (gap_text layout gap) (piece_text layout spot gap (piece class text n)) _

-- the same, where what was written, the gap and the column are known by equations
pub comment_written : (layout : Layout) (class : ℕ) → is_comment class ≡ true
    → (spot : Spot) (right : Role) (own : Bool) (written text shown first second : List ℕ)
    (n depth column : ℕ) (gap : Gap) (last : Last) (ps : List Piece)
    → next_role spot.state ps ≡ right → owned layout spot right ps ≡ own
    → gap ≡ gap_before_comment spot right class own n
    → shown ≡ piece_text layout spot gap (piece class text n)
    → first ≡ written ++ gap_text layout gap → second ≡ first ++ shown
    → depth ≡ depth_after gap spot.state.line
    → last ≡ comment_last class (leads gap spot.last spot.state.last)
    → column ≡ column_after layout spot.column (gap_text layout gap ++ shown)
    → written ++ laid_from layout spot (piece class text n ∷ ps) ≡ second ++ laid_from layout
    (after_comment_at spot depth last column) ps
comment_written layout class h spot right own written text shown first second n depth column gap
    last ps e i g w f s d l c =
    comment_laid layout class h spot right own written text n ps gap e i g
    ∙ ap (λ t. with_comment layout spot written gap class t ps) (sym w)
    ∙ ap (λ m. ((written ++ gap_text layout gap) ++ shown)
    ++ laid_from layout (after_comment_at spot m (comment_last class (leads gap spot.last
    spot.state.last)) (column_after layout spot.column (gap_text layout gap ++ shown))) ps) (sym d)
    ∙ ap (λ k. ((written ++ gap_text layout gap) ++ shown) ++ laid_from layout (after_comment_at
    spot depth k (column_after layout spot.column (gap_text layout gap ++ shown))) ps) (sym l)
    ∙ ap (λ m. ((written ++ gap_text layout gap) ++ shown)
    ++ laid_from layout (after_comment_at spot depth last m) ps) (sym c)
    ∙ ap (λ cs. (cs ++ shown) ++ laid_from layout (after_comment_at spot depth last column) ps) (sym f)
    ∙ ap (λ cs. cs ++ laid_from layout (after_comment_at spot depth last column) ps) (sym s)

-- ---- a token

-- others, formatted after a token in a line of this depth, which ends at this column
abbrev after_word : Layout → Spot → ℕ → ℕ → Role → ℕ → List Piece → List ℕ
after_word layout spot depth class right column ps =
    laid_from layout (after_token_at layout spot depth class right column) ps

-- a gap and a token are written, and others are formatted after them
abbrev with_word : Layout → Spot → ℕ → Role → Gap → List ℕ → List Piece → List ℕ
with_word layout spot class right gap text ps =
    gap_text layout gap ++ (text ++ after_word layout spot (depth_after gap spot.state.line) class
    right (column_after layout spot.column (gap_text layout gap ++ text)) ps)

token_laid_here : (layout : Layout) (class : ℕ) → is_comment class ≡ false
    → (spot : Spot) (text : List ℕ) (n : ℕ) (ps : List Piece)
    → laid_from layout spot (piece class text n ∷ ps) ≡ with_word layout spot class (role_in spot.state class
    (operand_follows ps)) (gap_before_token layout spot (role_in spot.state class (operand_follows ps)) n) text ps
token_laid_here layout class h spot text n ps =
    shown_word
    ∙ ap (λ t. with_word layout spot class (role_in spot.state class (operand_follows ps)) gap t ps)
    (token_text layout spot gap class text n h)
  where
    gap : Gap
    gap = gap_before_token layout spot (role_in spot.state class (operand_follows ps)) n

    shown_word : laid_from layout spot (piece class text n ∷ ps)
        ≡ with_word layout spot class (role_in spot.state class (operand_follows ps)) gap
        (piece_text layout spot gap (piece class text n)) ps
    shown_word = rw h refl

pub token_laid : (layout : Layout) (class : ℕ) → is_comment class ≡ false
    → (spot : Spot) (right : Role) (written text : List ℕ) (n : ℕ) (ps : List Piece)
    → right ≡ role_in spot.state class (operand_follows ps)
    → written ++ laid_from layout spot (piece class text n ∷ ps)
    ≡ ((written ++ gap_text layout (gap_before_token layout spot right n)) ++ text)
    ++ after_word layout spot (depth_after (gap_before_token layout spot right n) spot.state.line) class right
    (column_after layout spot.column (gap_text layout (gap_before_token layout spot right n) ++ text)) ps
token_laid layout class h spot right written text n ps e =
    ap (λ cs. written ++ cs) (token_laid_here layout class h spot text n ps
    ∙ ap (λ r. with_word layout spot class r (gap_before_token layout spot r n) text ps) (sym e))
    ∙ after_written written (gap_text layout (gap_before_token layout spot right n)) text _

-- the same, where what was written, the gap, the column and what is after it are known by equations
pub token_written : (layout : Layout) (class : ℕ) → is_comment class ≡ false
    → (spot : Spot) (right : Role) (written text first second : List ℕ) (n depth column : ℕ)
    (gap : Gap) (after : LayoutState) (ahead : List Ahead) (ps : List Piece)
    → right ≡ role_in spot.state class (operand_follows ps) → gap ≡ gap_before_token layout spot right n
    → first ≡ written ++ gap_text layout gap → second ≡ first ++ text
    → depth ≡ depth_after gap spot.state.line
    → column ≡ column_after layout spot.column (gap_text layout gap ++ text)
    → after ≡ state_with layout (before_next spot right) depth column class right spot.ahead
    → ahead ≡ drop 1 spot.ahead
    → written ++ laid_from layout spot (piece class text n ∷ ps)
    ≡ second ++ laid_from layout (record { state = after; last = token; column = column; ahead = ahead }) ps
token_written layout class h spot right written text first second n depth column gap after ahead ps e g f s d c a t =
    token_laid layout class h spot right written text n ps e
    ∙ ap (λ g. ((written ++ gap_text layout g) ++ text) ++ after_word layout spot (depth_after g
    spot.state.line) class right (column_after layout spot.column (gap_text layout g ++ text)) ps) (sym g)
    ∙ ap (λ m. ((written ++ gap_text layout gap) ++ text) ++ after_word layout spot m class right
    (column_after layout spot.column (gap_text layout gap ++ text)) ps) (sym d)
    ∙ ap (λ m. ((written ++ gap_text layout gap) ++ text) ++ after_word layout spot depth class right m ps) (sym c)
    ∙ ap (λ (state : LayoutState). ((written ++ gap_text layout gap) ++ text) ++ laid_from layout
    (record { state = state; last = token; column = column; ahead = drop 1 spot.ahead }) ps) (sym a)
    ∙ ap (λ (ts : List Ahead). ((written ++ gap_text layout gap) ++ text) ++ laid_from layout
    (record { state = after; last = token; column = column; ahead = ts }) ps) (sym t)
    ∙ ap (λ cs. (cs ++ text)
    ++ laid_from layout (record { state = after; last = token; column = column; ahead = ahead }) ps)
    (sym f)
    ∙ ap (λ cs. cs ++ laid_from layout
    (record { state = after; last = token; column = column; ahead = ahead }) ps) (sym s)
