-- A piece is formatted before others: where the closing brackets of what follows are aligned, so
-- are those of all.
use Rattle.std.proofs.Common.{◌≡◌, ℕ, Bool, true, false, cond, refl, sym, ap, subst, ◌∙◌, List, [], ◌∷◌, ◌++◌, append_assoc, append-nil, drop, Some, None}
use Rattle.std.proofs.lemmas.Bool.{true≢false}
use Rattle.wgsl_model.specs.Tokens.Kind.{Kind}
use Rattle.wgsl_model.specs.Tokens.Trivia.{outside}
use Rattle.wgsl_model_tidy.specs.Brackets.{Line, blank, begun, in_comment}
use Rattle.wgsl_model_tidy.specs.Pieces.{Piece}
use Rattle.wgsl_model_tidy.specs.Roles.{Role, beginning, closing, opening, is}
use Rattle.wgsl_model_tidy.specs.Layout.{Layout, column_after}
use Rattle.wgsl_model_tidy.specs.Open.{Open, Opened, Style, LayoutState, between_items, outer_depth, depth_of, comment_depth, role_in, opened_after_token}
use Rattle.wgsl_model_tidy.specs.Ahead.{is_comment, operand_follows, next_role}
use Rattle.wgsl_model_tidy.specs.LaidOut.{style_with, operands_with, between, counted, before_next, Gap, Last, token, line_comment, block_comment, leading_comment, open_comment, Spot, owned, line_end, gap_before_comment, gap_before_token, gap_text, indentation, depth_after, piece_text, leads, comment_last, laid_from, ending}
use Rattle.wgsl_theory_tidy.proofs.Comments.{piece}
use Rattle.wgsl_theory_tidy.proofs.Laid.{after_comment_at, after_token_at, token_laid}
use Rattle.wgsl_theory_tidy.proofs.Kept.Readings.{IsToken, token_piece}
use Rattle.wgsl_theory_tidy.proofs.Kept.ClosedComments.{Closed, Unclosed, unclosed, AllClosedButLast, no_more, one_more, last_open}
use Rattle.wgsl_theory_tidy.proofs.Kept.Gaps.{closed_is_comment, unclosed_is_comment}
use Rattle.wgsl_theory_tidy.proofs.Kept.ShownTexts.{closed_text, unclosed_text}
use Rattle.wgsl_theory_tidy.proofs.Kept.NestedTokens.{Effect, opens, closes, none, effect, opened_after}
use Rattle.wgsl_theory_tidy.proofs.Kept.BracketWords.{NoBracket, WordOf, opening_word, closing_word, other_word, word_of}
use Rattle.wgsl_theory_tidy.proofs.Kept.OpenedRoles.{HasEffect, role_effect}
use Rattle.wgsl_theory_tidy.proofs.Kept.AlignedTexts.{Aligns, Aligned, no_closing, entered}
use Rattle.wgsl_theory_tidy.proofs.Kept.AlignedComments.{AlignedAfter, comment_over, open_over}
use Rattle.wgsl_theory_tidy.proofs.Kept.AlignedWords.{opening_over, closing_over, word_over}
use Rattle.wgsl_theory_tidy.proofs.Kept.AlignedGaps.{token_gapped, comment_gapped, token_at_start, comment_at_start, InLine, shown, hidden, Stands, within, Before, begins, first, goes_on, after_entered, gap_over}

-- ---- comments

-- the gap before a comment, the comment as it is written there, and the spot after it
abbrev gap_there : Layout → Spot → ℕ → ℕ → List Piece → Gap
gap_there layout spot class n ps = gap_before_comment spot (next_role spot.state ps) class
    (owned layout spot (next_role spot.state ps) ps) n

abbrev text_there : Layout → Spot → ℕ → List ℕ → ℕ → List Piece → List ℕ
text_there layout spot class text n ps = piece_text layout spot (gap_there layout spot class n ps) (piece class text n)

abbrev after_comment : Layout → Spot → ℕ → List ℕ → ℕ → List Piece → Spot
after_comment layout spot class text n ps =
    let gap = gap_there layout spot class n ps in
    after_comment_at spot (depth_after gap spot.state.line)
    (comment_last class (leads gap spot.last spot.state.last))
    (column_after layout spot.column (gap_text layout gap ++ text_there layout spot class text n ps))

comment_laid : (layout : Layout) (spot : Spot) (class : ℕ) (text : List ℕ) (n : ℕ) (ps : List Piece)
    → is_comment class ≡ true
    → laid_from layout spot (piece class text n ∷ ps) ≡ gap_text layout (gap_there layout spot class n ps)
    ++ (text_there layout spot class text n ps ++ laid_from layout (after_comment layout spot class text n ps) ps)
comment_laid layout spot class text n ps h = rw h refl

-- over the gap before a comment
comment_gap_over : (layout : Layout) (spot : Spot) (marks : List Bool) (l : Line) (opened : List Line)
    → Stands layout spot marks l → (right : Role) (class : ℕ) (own : Bool) (n : ℕ) (r : List ℕ)
    → ((m : Line) → Before layout (comment_depth (before_next spot right) right) (depth_after
    (gap_before_comment spot right class own n) spot.state.line) marks m → Aligned outside m opened r)
    → AlignedAfter spot.last l opened (gap_text layout (gap_before_comment spot right class own n) ++ r)
comment_gap_over layout spot marks l opened s right class own n r k =
    gap_over layout spot marks l opened s _ (comment_depth (before_next spot right) right)
    (gap_before_comment spot right class own n)
    (comment_gapped class spot.last spot.state.last own (counted spot n)
    (line_end (between_items (before_next spot right) right)
    spot.last spot.state.last beginning (counted spot n) (comment_depth (before_next spot right) right)))
    (comment_at_start class spot.last spot.state.last own (counted spot n)
    (line_end (between_items (before_next spot right) right)
    spot.last spot.state.last beginning (counted spot n) (comment_depth (before_next spot right) right)))
    r k

-- after a comment a line goes on, or one that begins in it
pub comment_step : (layout : Layout) (spot : Spot) (class : ℕ) (text : List ℕ) (n : ℕ) (ps : List Piece)
    → Closed class text → (marks : List Bool) (l : Line) (opened : List Line) → Stands layout spot marks l
    → ((m : Line) → Stands layout (after_comment layout spot class text n ps) marks m
    → AlignedAfter (after_comment layout spot class text n ps).last m opened
    (laid_from layout (after_comment layout spot class text n ps) ps))
    → AlignedAfter spot.last l opened (laid_from layout spot (piece class text n ∷ ps))
comment_step layout spot class text n ps c marks l opened s k =
    let right = next_role spot.state ps in
    let own = owned layout spot right ps in
    let gap = gap_there layout spot class n ps in
    let written = text_there layout spot class text n ps in
    let after = after_comment layout spot class text n ps in
    subst (AlignedAfter spot.last l opened)
    (sym (comment_laid layout spot class text n ps (closed_is_comment class text c)))
    (comment_gap_over layout spot marks l opened s right class own n (written ++ laid_from layout after ps) (λ m b.
    comment_over class written (closed_text layout spot gap class text n c)
    (leads gap spot.last spot.state.last) m opened (laid_from layout after ps)
    (k (entered m) (within (entered m) (after_entered layout (comment_depth (before_next spot right) right)
    (depth_after gap spot.state.line) marks m b)))
    (k in_comment (within in_comment hidden))))

unclosed_ends : (class : ℕ) (text : List ℕ) → Unclosed class text → (leading : Bool) (left : Role)
    → ending (comment_last class leading) left ≡ []
unclosed_ends class text (unclosed xs i) leading left = refl

open_step : (layout : Layout) (spot : Spot) (class : ℕ) (text : List ℕ) (n : ℕ) → Unclosed class text
    → (marks : List Bool) (l : Line) (opened : List Line) → Stands layout spot marks l
    → AlignedAfter spot.last l opened (laid_from layout spot (piece class text n ∷ []))
open_step layout spot class text n u marks l opened s =
    let right = next_role spot.state [] in
    let own = owned layout spot right [] in
    let gap = gap_there layout spot class n [] in
    let written = text_there layout spot class text n [] in
    let whole : laid_from layout spot (piece class text n ∷ []) ≡ gap_text layout gap ++ written =
    comment_laid layout spot class text n [] (unclosed_is_comment class text u)
    ∙ ap (λ xs. gap_text layout gap ++ (written ++ xs)) (unclosed_ends class text u (leads gap spot.last
    spot.state.last) spot.state.last) ∙ ap (λ xs. gap_text layout gap ++ xs) (append-nil written) in
    subst (AlignedAfter spot.last l opened) (sym whole)
    (comment_gap_over layout spot marks l opened s right class own n written
    (λ m b. open_over class written (unclosed_text layout spot gap class text n u) m opened))

-- ---- the end of the text

end_over : (last : Last) (left : Role) (l : Line) (opened : List Line) → AlignedAfter last l opened (ending last left)
end_over token left l opened = go (is left beginning)
  where
    go : (b : Bool) → Aligned outside l opened (cond b [] (10 ∷ []))
    go true = tt
    go false = (no_closing outside l opened 10 refl, tt)
end_over line_comment left l opened = ((λ h e. absurd cc), tt)
end_over open_comment left l opened = tt
end_over block_comment left l opened = (no_closing outside l opened 10 refl, tt)
end_over leading_comment left l opened = (no_closing outside l opened 10 refl, tt)

pub last_over : (layout : Layout) (cs : List Piece) → AllClosedButLast cs
    → (spot : Spot) (marks : List Bool) (l : Line) (opened : List Line) → Stands layout spot marks l
    → AlignedAfter spot.last l opened (laid_from layout spot cs)
last_over layout _ (no_more) spot marks l opened s = end_over spot.last spot.state.last l opened
last_over layout _ (one_more p ps c h) spot marks l opened s =
    comment_step layout spot p.class p.text p.line_ends ps c marks l opened s
    (λ m t. last_over layout ps h (after_comment layout spot p.class p.text p.line_ends ps) marks m opened t)
last_over layout _ (last_open p u) spot marks l opened s =
    open_step layout spot p.class p.text p.line_ends u marks l opened s

-- ---- brackets

-- the line of each open bracket is as deep as the line that closes it; true is for brackets,
-- which have lines
pub data Agree (layout : Layout) : List Bool → Opened → List Line → Type 0 where
  agree_none : (os : Opened) (ls : List Line) → Agree layout [] os ls
  agree_bracket : (ms : List Bool) (kind : Open) (depth : ℕ) (os : Opened) (l : Line) (ls : List Line)
      → InLine layout depth l → Agree layout ms os ls
      → Agree layout (true ∷ ms) ((kind, depth) ∷ os) (l ∷ ls)
  agree_other : (ms : List Bool) (kind : Open) (depth : ℕ) (os : Opened) (ls : List Line)
      → Agree layout ms os ls → Agree layout (false ∷ ms) ((kind, depth) ∷ os) ls

-- a bracket is closed
record BracketClosed (layout : Layout) (ms : List Bool) (os : Opened) (ls : List Line) : Type 0 where
  line : Line
  outer : List Line
  lines : ls ≡ line ∷ outer
  in_line : InLine layout (outer_depth os) line
  left : Agree layout ms (drop 1 os) (drop 1 ls)

bracket_closed : (layout : Layout) (marks ms : List Bool) (os : Opened) (ls : List Line)
    → Agree layout marks os ls → opened_after (closes true) marks ≡ Some ms → BracketClosed layout ms os ls
bracket_closed layout _ ms os ls (agree_none _ _) e = absurd cc
bracket_closed layout _ ms _ _ (agree_bracket ns kind depth os l ls i a) e =
    let same : ns ≡ ms = cc in
    record { line = l; outer = ls; lines = refl; in_line = i; left = subst (λ xs. Agree layout xs os ls) same a }
bracket_closed layout _ ms _ ls (agree_other ns kind depth os _ a) e = absurd cc

other_closed : (layout : Layout) (marks ms : List Bool) (os : Opened) (ls : List Line)
    → Agree layout marks os ls → opened_after (closes false) marks ≡ Some ms
    → Agree layout ms (drop 1 os) ls
other_closed layout _ ms os ls (agree_none _ _) e = absurd cc
other_closed layout _ ms _ _ (agree_bracket ns kind depth os l ls i a) e = absurd cc
other_closed layout _ ms _ ls (agree_other ns kind depth os _ a) e =
    let same : ns ≡ ms = cc in subst (λ xs. Agree layout xs os ls) same a

-- a closing bracket before which nothing is in its line
closing_aligns : (layout : Layout) (break depth : ℕ) (marks ms : List Bool) (os : Opened) (ls : List Line)
    (l : Line) (c : ℕ) → break ≡ outer_depth os → opened_after (closes true) marks ≡ Some ms
    → BracketClosed layout ms os ls → Before layout break depth marks l
    → Aligns outside l ls c
closing_aligns layout break depth marks ms os ls _ c e s b (begins d) = λ h space other outer f g.
    (let same : b.line ≡ begun other = first_is (sym b.lines ∙ g) in
    let lines : begun (indentation layout (outer_depth os)) ≡ begun other =
    written (outer_depth os) b.line b.in_line other same in
    let ours : indentation layout depth ≡ space = cc in
    let theirs : indentation layout (outer_depth os) ≡ other = cc in
    sym ours ∙ ap (indentation layout) (d ∙ e) ∙ theirs)
  where
    first_is : {x y : Line} {xs ys : List Line} → x ∷ xs ≡ y ∷ ys → x ≡ y
    first_is h = cc

    written : (n : ℕ) (x : Line) → InLine layout n x → (other : List ℕ) → x ≡ begun other
        → begun (indentation layout n) ≡ begun other
    written n _ (shown) other h = h
    written n _ (hidden) other h = absurd cc
closing_aligns layout break depth _ ms os ls _ c e s b (first d m) = absurd (empty m s)
  where
    empty : {ns : List Bool} → ns ≡ [] → opened_after (closes true) ns ≡ Some ms → ⊥
    empty {ns} m s = let none_left : None ≡ Some ms = ap (opened_after (closes true)) (sym m) ∙ s in absurd cc
closing_aligns layout break depth marks ms os ls l c e s b (goes_on _ i) =
    λ h space other outer f g. absurd (no_space l i space f)
  where
    no_space : (x : Line) → InLine layout depth x → (space : List ℕ) → x ≡ blank space → ⊥
    no_space _ (shown) space f = absurd cc
    no_space _ (hidden) space f = absurd cc

-- ---- tokens

-- the spot after a token
abbrev pub after_token : Layout → Spot → ℕ → List ℕ → ℕ → List Piece → Spot
after_token layout spot class w n ps =
    let right = role_in spot.state class (operand_follows ps) in
    let gap = gap_before_token layout spot right n in
    let depth = depth_after gap spot.state.line in
    let column = column_after layout spot.column (gap_text layout gap ++ w) in
    after_token_at layout spot depth class right column

token_laid_here : (layout : Layout) (spot : Spot) (class : ℕ) (w : List ℕ) (n : ℕ) (ps : List Piece)
    → is_comment class ≡ false
    → laid_from layout spot (piece class w n ∷ ps)
    ≡ gap_text layout (gap_before_token layout spot (role_in spot.state class (operand_follows ps)) n)
    ++ (w ++ laid_from layout (after_token layout spot class w n ps) ps)
token_laid_here layout spot class w n ps h =
    let right = role_in spot.state class (operand_follows ps) in
    token_laid layout class h spot right [] w n ps refl ∙ append_assoc (gap_text layout
    (gap_before_token layout spot right n)) w (laid_from layout (after_token layout spot class w n ps) ps)

-- a token that is no bracket changes no lines
other_agrees : (layout : Layout) (state : LayoutState) (line : ℕ) (right : Role) (style : Style)
    (e : Effect) (marks ms : List Bool) (ls : List Line)
    → HasEffect e right → NoBracket e → opened_after e marks ≡ Some ms
    → Agree layout marks state.opened ls → Agree layout ms (opened_after_token state line right style) ls
other_agrees layout state line right style (opens false) marks ms ls h n s a =
    let does = h state line style in
    let same : false ∷ marks ≡ ms = cc in
    subst (λ os. Agree layout ms os ls) (sym does.2)
    (subst (λ xs. Agree layout xs ((does.0, does.1) ∷ state.opened) ls) same
    (agree_other marks does.0 does.1 state.opened ls a))
other_agrees layout state line right style (opens true) marks ms ls h n s a = absurd (true≢false n)
other_agrees layout state line right style (closes false) marks ms ls h n s a =
    subst (λ os. Agree layout ms os ls) (sym (h state line style))
    (other_closed layout marks ms state.opened ls a s)
other_agrees layout state line right style (closes true) marks ms ls h n s a = absurd (true≢false n)
other_agrees layout state line right style (none) marks ms ls h n s a =
    let same : marks ≡ ms = cc in
    subst (λ os. Agree layout ms os ls) (sym (h state line style))
    (subst (λ xs. Agree layout xs state.opened ls) same a)

-- an opening bracket opens in its line
opening_agrees : (layout : Layout) (state : LayoutState) (line : ℕ) (right : Role) (style : Style)
    (marks ms : List Bool) (l : Line) (ls : List Line)
    → right ≡ opening → opened_after (opens true) marks ≡ Some ms → InLine layout line l
    → Agree layout marks state.opened ls → Agree layout ms (opened_after_token state line right style) (l ∷ ls)
opening_agrees layout state line right style marks ms l ls e s i a =
    let same : true ∷ marks ≡ ms = cc in
    subst (λ x. Agree layout ms (opened_after_token state line x style) (l ∷ ls)) (sym e)
    (subst (λ xs. Agree layout xs (opened_after_token state line opening style) (l ∷ ls)) same
    (agree_bracket marks _ line state.opened l ls i a))

-- a closing bracket closes the last of them
closing_agrees : (layout : Layout) (state : LayoutState) (line : ℕ) (right : Role) (style : Style)
    (ms : List Bool) (ls : List Line)
    → right ≡ closing → BracketClosed layout ms state.opened ls
    → Agree layout ms (opened_after_token state line right style) (drop 1 ls)
closing_agrees layout state line right style ms ls e b =
    subst (λ x. Agree layout ms (opened_after_token state line x style) (drop 1 ls)) (sym e) b.left

-- the token in its line
in_its_line : (layout : Layout) (state : LayoutState) (line : ℕ) (style : Style) (k : Kind) (operand : Bool)
    (w r : List ℕ) → WordOf k w → IsToken k w r → (marks ms : List Bool) (l : Line) (ls : List Line)
    → opened_after (effect k.class) marks ≡ Some ms → Agree layout marks state.opened ls
    → Before layout (depth_of state (role_in state k.class operand)) line marks l
    → ((m : Line) (ns : List Line) → InLine layout line m → Agree layout ms (opened_after_token state line
    (role_in state k.class operand) style) ns → Aligned outside m ns r) → Aligned outside l ls (w ++ r)
in_its_line layout state line style k operand _ r (opening_word c d o x e) i marks ms l ls s a b next =
    let role : role_in state k.class operand ≡ opening = role_effect state k.class operand (opens true) e in
    let now = after_entered layout (depth_of state (role_in state k.class operand)) line marks l b in
    let marked : opened_after (opens true) marks ≡ Some ms = ap (λ f. opened_after f marks) (sym e) ∙ s in
    opening_over l ls c r d o x (next (entered l) (entered l ∷ ls) now (opening_agrees layout state
    line (role_in state k.class operand) style marks ms (entered l) ls role marked now a))
in_its_line layout state line style k operand _ r (closing_word c d o x e) i marks ms l ls s a b next =
    let role : role_in state k.class operand ≡ closing = role_effect state k.class operand (closes true) e in
    let now = after_entered layout (depth_of state (role_in state k.class operand)) line marks l b in
    let marked : opened_after (closes true) marks ≡ Some ms = ap (λ f. opened_after f marks) (sym e) ∙ s in
    let closed = bracket_closed layout marks ms state.opened ls a marked in
    let depth : depth_of state (role_in state k.class operand) ≡ outer_depth state.opened = ap (depth_of state) role in
    closing_over l ls c r d o x (closing_aligns layout (depth_of state
    (role_in state k.class operand)) line marks ms state.opened ls l c depth marked closed b)
    (next (entered l) (drop 1 ls) now
    (closing_agrees layout state line (role_in state k.class operand) style ms ls role closed))
in_its_line layout state line style k operand w r (other_word _ p n) i marks ms l ls s a b next =
    let now = after_entered layout (depth_of state (role_in state k.class operand)) line marks l b in
    word_over k w r l ls i p
    (next (entered l) ls now (other_agrees layout state line (role_in state k.class operand) style
    (effect k.class) marks ms ls (role_effect state k.class operand (effect k.class) refl) n s a))

pub token_step : (layout : Layout) (spot : Spot) (k : Kind) (w : List ℕ) (n : ℕ) (ps : List Piece)
    → is_comment k.class ≡ false
    → IsToken k w (laid_from layout (after_token layout spot k.class w n ps) ps)
    → (marks ms : List Bool) (l : Line) (ls : List Line) → opened_after (effect k.class) marks ≡ Some ms
    → Agree layout marks spot.state.opened ls → Stands layout spot marks l
    → ((m : Line) (ns : List Line) → Stands layout (after_token layout spot k.class w n ps) ms m
    → Agree layout ms (after_token layout spot k.class w n ps).state.opened ns
    → Aligned outside m ns (laid_from layout (after_token layout spot k.class w n ps) ps))
    → AlignedAfter spot.last l ls (laid_from layout spot (token_piece k w n ∷ ps))
token_step layout spot k w n ps h i marks ms l ls e a s next =
    let right = role_in spot.state k.class (operand_follows ps) in
    let gap = gap_before_token layout spot right n in
    let after = after_token layout spot k.class w n ps in
    let depth = depth_after gap spot.state.line in
    let column = column_after layout spot.column (gap_text layout gap ++ w) in
    let break = line_end (between_items (before_next spot right) right) spot.last spot.state.last right (counted spot n)
    (depth_of (before_next spot right) right) in
    subst (AlignedAfter spot.last l ls) (sym (token_laid_here layout spot k.class w n ps h))
    (gap_over layout spot marks l ls s _ (depth_of (before_next spot right) right) gap
    (token_gapped (between layout spot right) spot.last spot.state.last right (counted spot n) break)
    (token_at_start (between layout spot right) spot.last spot.state.last right (counted spot n) break)
    (w ++ laid_from layout after ps)
    (λ m b. in_its_line layout (before_next spot right) depth
    (style_with layout (operands_with layout (before_next spot right) depth column right spot.ahead)
    depth column right spot.ahead) k
    (operand_follows ps) w (laid_from layout after ps) (word_of k w (laid_from layout after ps) i) i marks ms m ls e a b
    (λ x ns j c. next x ns (within x j) c)))
