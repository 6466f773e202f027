-- In a formatted text the items of a bracket begin lines as it is written.
use Rattle.std.proofs.Common.{◌≡◌, ℕ, zero, suc, ◌+◌, ◌==◌, ◌&&◌, ◌||◌, not, Bool, true, false, cond, refl, sym, ap, ap₂, subst, ◌∙◌, List, [], ◌∷◌, ◌++◌, length, drop, arith}
use Rattle.std.proofs.lemmas.Bool.{and_parts, eqb-true, true≢false}
use Rattle.wgsl_model.specs.Tokens.ClassTable.{BlockComment}
use Rattle.wgsl_model_tidy.specs.Pieces.{Piece}
use Rattle.wgsl_model_tidy.specs.Roles.{Role, beginning, is, closes, opens}
use Rattle.wgsl_model_tidy.specs.Joints.{is_between_items}
use Rattle.wgsl_model_tidy.specs.Layout.{Layout, column_after}
use Rattle.wgsl_model_tidy.specs.Open.{Operands, Style, together, as_written, filled, item_by_item, Opened, LayoutState, enclosed_by, enclosing, role_in, after_token, opened_after_token, between_items, depth_of, comment_depth}
use Rattle.wgsl_model_tidy.specs.Ahead.{Ahead, is_comment, is_inline, operand_follows, next_role, comment_width, after_comment, token_ahead, tokens_ahead}
use Rattle.wgsl_model_tidy.specs.LaidOut.{Gap, block_comment, leading_comment, Spot, is_token, is_line, may_break, between, owned, counted, before_next, line_end, gap_before_comment, gap_before_token, gap_before, token_gap, comment_gap, depth_after, gap_text, piece_text, leads, comment_last, after_piece, is_filled, is_followed, style_with, operands_with}
use Rattle.wgsl_theory_tidy.proofs.Laid.{after_comment_at, after_token_at}
use Rattle.wgsl_theory_tidy.proofs.Kept.Relaid.{after_first, first_again, relaid, relaid_operand}
use Rattle.wgsl_theory_tidy.proofs.Kept.ShownTexts.{text_kept}
use Rattle.wgsl_theory_tidy.proofs.Kept.MeasuredTexts.{AreWrittenSame}
use Rattle.wgsl_theory_tidy.proofs.Kept.AheadStates.{AreAlike, length_alike, alike_after, next_alike, opened_more, opened_less, opened_same, IsFirst, FirstIs, first_ahead}
use Rattle.wgsl_theory_tidy.proofs.Kept.RowsAgain.{item_joint, has_ended, new_below, owes, counts, separator, between_joint, token_ended, comment_ended, no_lead}

-- ---- the spot after a piece

pub comment_spot : (layout : Layout) (spot : Spot) (gap : Gap) (right : Role) (p : Piece)
    → is_comment p.class ≡ true
    → after_piece layout spot gap right p
    ≡ after_comment_at spot (depth_after gap spot.state.line)
    (comment_last p.class (leads gap spot.last spot.state.last))
    (column_after layout spot.column (gap_text layout gap ++ piece_text layout spot gap p))
comment_spot layout spot gap right p h = rw h refl

pub token_spot : (layout : Layout) (spot : Spot) (gap : Gap) (right : Role) (p : Piece) → is_comment p.class ≡ false
    → after_piece layout spot gap right p
    ≡ after_token_at layout spot (depth_after gap spot.state.line) p.class right
    (column_after layout spot.column (gap_text layout gap ++ piece_text layout spot gap p))
token_spot layout spot gap right p h = rw h refl

-- ---- inside a bracket

-- a bracket of a style is open, with so many inside, and n brackets and blocks up to it
abbrev pub Inside : Style → ℕ → ℕ → Opened → Type 0
Inside style n zero opened = (enclosing opened ≡ enclosed_by style) × (length opened ≡ n)
Inside style n (suc k) [] = ⊥
Inside style n (suc k) (x ∷ opened) = Inside style n k opened

inside_length : (style : Style) (n k : ℕ) (opened : Opened) → Inside style n k opened → length opened ≡ n + k
inside_length style n zero opened h = h.1 ∙ omega arith
inside_length style n (suc k) [] h = absurd h
inside_length style n (suc k) (x ∷ opened) h =
    let less : length opened ≡ n + k = inside_length style n k opened h in
    ap suc less ∙ omega arith

-- ---- what is known of two tokens ahead, and of those after them up to the end of the bracket

abbrev pub Stops : Bool → Type 0 → Type 0
Stops true X = Unit {0}
Stops false X = X

abbrev pub IsKept : ℕ → Style → Bool → Ahead → Ahead → Type 0
IsKept n style owed t u = owed ≡ true → (t.level == n) ≡ true → closes t.role ≡ false → t.item ≡ true → t.ends ≡ false
    → u.below ≡ new_below style t.below

-- the bracket has m brackets and blocks outside
abbrev pub Rows : ℕ → Style → Bool → List Ahead → List Ahead → Type 0
Rows m style owed [] [] = Unit {0}
Rows m style owed [] (u ∷ us) = ⊥
Rows m style owed (t ∷ ts) [] = ⊥
Rows m style owed (t ∷ ts) (u ∷ us) = Stops (t.level == suc m && closes t.role)
    (IsKept (suc m) style owed t u × ((t.level == m) ≡ false) × Rows m style true ts us)

-- ---- a comment more before them

abbrev merged : Layout → Piece → Ahead → Ahead
merged layout p t = record t {
  space = t.space + comment_width layout p;
  ends = t.ends || not (is_inline p);
  below = t.below || not (p.line_ends == 0);
}

stops_by : (b : Bool) {X Y : Type 0} → (X → Y) → Stops b X → Stops b Y
stops_by true f x = tt
stops_by false f x = f x

rows_comment : (layout : Layout) (m : ℕ) (style : Style) (a : LayoutState) (right : Role)
    (before after : Bool) (p q : Piece)
    (ts us : List Ahead) → FirstIs a right ts
    → ((t u : Ahead) → IsFirst a right t → IsKept (suc m) style after t u
    → IsKept (suc m) style before (merged layout p t) (merged layout q u))
    → Rows m style after ts us → Rows m style before (after_comment layout p ts) (after_comment layout q us)
rows_comment layout m style a right before after p q [] [] f k r = tt
rows_comment layout m style a right before after p q [] (u ∷ us) f k r = r
rows_comment layout m style a right before after p q (t ∷ ts) [] f k r = r
rows_comment layout m style a right before after p q (t ∷ ts) (u ∷ us) f k r =
    stops_by (t.level == suc m && closes t.role) (λ x. (k t u f x.0, x.1, x.2)) r

-- ---- the gap before a piece, directly in the bracket

counted_by : (spot : Spot) (style : Style) (n : ℕ) → enclosing spot.state.opened ≡ enclosed_by style
    → counted spot n ≡ counts style n
counted_by spot style n e = ap (λ inside. cond (may_break inside) n 0) e ∙ go style
  where
    go : (style : Style) → cond (may_break (enclosed_by style)) n 0 ≡ counts style n
    go together = refl
    go as_written = refl
    go filled = refl
    go item_by_item = refl

token_below : (layout : Layout) (spot : Spot) (right : Role) (style : Style) (n : ℕ)
    → enclosing spot.state.opened ≡ enclosed_by style → is_filled (enclosed_by style) ≡ false
    → is_between_items spot.state.last right ≡ true → closes right ≡ false → owes style spot.last ≡ true
    → has_ended (gap_before_token layout spot right n) ≡ new_below style (not (n == 0))
token_below layout spot right style n e f i c o =
    ap (λ j. has_ended (token_gap j spot.last spot.state.last right (counted spot n) (line_end items spot.last
    spot.state.last right (counted spot n) depth))) (between_joint layout spot right style e f i c)
    ∙ ap (λ k. has_ended (token_gap (item_joint style) spot.last spot.state.last right k (line_end items spot.last
    spot.state.last right (counted spot n) depth))) (counted_by spot style n e)
    ∙ token_ended style f spot.last spot.state.last right (separator spot.state.last right i).no_beginning c o n _ depth
  where
    items : Bool
    items = between_items (before_next spot right) right

    depth : ℕ
    depth = depth_of (before_next spot right) right

-- no comment belongs to the next token, where no line has to end
own_none : (layout : Layout) (spot : Spot) (right : Role) (ps : List Piece)
    → is_line (between layout spot right) ≡ false
    → owned layout spot right ps ≡ false
own_none layout spot right ps h = go (is_token spot.last) (is_line (between layout spot right)) h
  where
    go : (a b : Bool) → b ≡ false → (a && ((b && not (closes right)) && is_followed ps)) ≡ false
    go true true h = absurd (true≢false h)
    go true false h = refl
    go false b h = refl

comment_below : (layout : Layout) (spot : Spot) (right : Role) (style : Style) (class n : ℕ) (ps : List Piece)
    → enclosing spot.state.opened ≡ enclosed_by style → is_filled (enclosed_by style) ≡ false
    → is_line (item_joint style) ≡ false
    → is_between_items spot.state.last right ≡ true → closes right ≡ false → owes style spot.last ≡ true
    → has_ended (gap_before_comment spot right class (owned layout spot right ps) n) ≡ not (counts style n == 0)
comment_below layout spot right style class n ps e f j i c o =
    ap (λ own. has_ended (gap_before_comment spot right class own n)) (own_none layout spot right ps
    (ap is_line (between_joint layout spot right style e f i c) ∙ j))
    ∙ ap (λ k. has_ended (comment_gap class spot.last spot.state.last false k (line_end items spot.last spot.state.last
    beginning (counted spot n) depth))) (counted_by spot style n e)
    ∙ comment_ended class style spot.last spot.state.last (separator spot.state.last right i).no_beginning o
    (counts style n) _ depth
  where
    items : Bool
    items = between_items (before_next spot right) right

    depth : ℕ
    depth = comment_depth (before_next spot right) right

-- what is last after a block comment in a line
block_last : (class : ℕ) (leading : Bool) → (class == BlockComment) ≡ true
    → comment_last class leading ≡ cond leading leading_comment
    block_comment
block_last class leading h = ap (λ c. comment_last c leading) (eqb-true class BlockComment h)

or_true : (b : Bool) → (b || true) ≡ true
or_true true = refl
or_true false = refl

-- the item after the comment, by the line breaks before both
comment_item : (style : Style) (spot : Spot) (gap : Gap) (class n : ℕ) (t u : Bool)
    → is_filled (enclosed_by style) ≡ false → (class == BlockComment) ≡ true → owes style spot.last ≡ true
    → is spot.state.last beginning ≡ false
    → (is_line (item_joint style) ≡ false → has_ended gap ≡ not (counts style n == 0))
    → (owes style (comment_last class (leads gap spot.last spot.state.last)) ≡ true → u ≡ new_below style t)
    → (u || has_ended gap) ≡ new_below style (t || not (n == 0))
comment_item together spot gap class n t u f b o l g h =
    ap₂ (λ (x y : Bool). x || y)
    (h (ap (owes together) (block_last class _ b) ∙ go (leads gap spot.last spot.state.last)))
    (g refl)
  where
    go : (leading : Bool) → owes together (cond leading leading_comment
        block_comment) ≡ true
    go true = refl
    go false = refl
comment_item as_written spot gap class n t u f b o l g h =
    ap₂ (λ (x y : Bool). x || y)
    (h (ap (owes as_written) (block_last class _ b) ∙ go (leads gap spot.last spot.state.last)))
    (g refl)
  where
    go : (leading : Bool) → owes as_written (cond leading leading_comment
        block_comment) ≡ true
    go true = refl
    go false = refl
comment_item filled spot gap class n t u f b o l g h = absurd (true≢false f)
comment_item item_by_item spot gap class n t u f b o l g h = go (has_ended gap) refl
  where
    go : (e : Bool) → has_ended gap ≡ e → (u || e) ≡ true
    go true e = or_true u
    go false e = ap (λ x. x || false) (h (ap (owes item_by_item) (block_last class _ b)
        ∙ ap (λ leading. owes item_by_item (cond leading leading_comment block_comment))
        (no_lead spot.last spot.state.last l o gap e)))

-- ---- one piece

-- the others keep it, whatever is open
abbrev Others : Layout → ℕ → Style → List Piece → Type 0
Others layout m style ps = (k : ℕ) (a : LayoutState) (after : Spot) → AreAlike a after.state
    → Inside style (suc m) k after.state.opened
    → Rows m style (owes style after.last) (tokens_ahead layout a ps) (tokens_ahead layout a (relaid layout after ps))

no_more_level : (m k n : ℕ) → n ≡ suc m + suc k → (n == suc m) ≡ true → ⊥
no_more_level m k n e h = let same : n ≡ suc m = eqb-true n (suc m) h in absurd (omega (arith, e, same))

not_outside : (m k n : ℕ) → n ≡ suc m + k → (n == m) ≡ false
not_outside m k n e = go (n == m) refl
  where
    go : (b : Bool) → (n == m) ≡ b → b ≡ false
    go true h = let same : n ≡ m = eqb-true n m h in absurd (omega (arith, e, same))
    go false h = refl

or_none : (a b : Bool) → (a || b) ≡ false → (a ≡ false) × (b ≡ false)
or_none true b e = absurd (true≢false e)
or_none false b e = (refl, e)

not_false : (b : Bool) → not b ≡ false → b ≡ true
not_false true h = refl
not_false false h = absurd (true≢false h)

pub spelled_again : (layout : Layout) (spot : Spot) (p : Piece) (ps : List Piece)
    → AreWrittenSame p (first_again layout spot p ps)
spelled_again layout spot p ps = record {
  class = refl;
  text = text_kept layout spot (gap_before layout spot (next_role spot.state (p ∷ ps)) p ps) p;
}

comment_gap_here : (layout : Layout) (spot : Spot) (p : Piece) (ps : List Piece) → is_comment p.class ≡ true
    → gap_before layout spot (next_role spot.state (p ∷ ps)) p ps
    ≡ gap_before_comment spot (next_role spot.state ps) p.class
    (owned layout spot (next_role spot.state ps) ps) p.line_ends
comment_gap_here layout spot p ps c = rw c refl

inline_block : (p : Piece) → is_inline p ≡ true → (p.class == BlockComment) ≡ true
inline_block p h = (and_parts (p.class == BlockComment) _ h).0

comment_kept : (layout : Layout) (m k : ℕ) (style : Style) → is_filled (enclosed_by style) ≡ false
    → (a : LayoutState) (spot : Spot) (p : Piece) (ps : List Piece) → AreAlike a spot.state
    → Inside style (suc m) k spot.state.opened → is_comment p.class ≡ true → (after : Spot)
    → after.last ≡ comment_last p.class (leads (gap_before layout spot (next_role spot.state (p ∷ ps)) p ps) spot.last
    spot.state.last)
    → (t u : Ahead) → IsFirst a (next_role a ps) t → IsKept (suc m) style (owes style after.last) t u
    → IsKept (suc m) style (owes style spot.last) (merged layout p t) (merged layout (first_again layout spot p ps) u)
comment_kept layout m (suc k) style f a spot p ps al ins c after l t u first kept o v cl i e =
    absurd (no_more_level m k t.level (first.level ∙ length_alike a spot.state al
    ∙ inside_length style (suc m) (suc k) spot.state.opened ins) v)
comment_kept layout m zero style f a spot p ps al ins c after l t u first kept o v cl i e =
    comment_item style spot gap p.class p.line_ends t.below u.below f (inline_block p inline) o
    (separator spot.state.last right between).no_beginning
    (λ j. ap has_ended (comment_gap_here layout spot p ps c)
    ∙ comment_below layout spot right style p.class p.line_ends ps ins.0 f j between closing o)
    (λ h. kept (ap (owes style) l ∙ h) v cl i parts.0)
  where
    right : Role
    right = next_role spot.state ps

    gap : Gap
    gap = gap_before layout spot (next_role spot.state (p ∷ ps)) p ps

    parts : (t.ends ≡ false) × (not (is_inline p) ≡ false)
    parts = or_none t.ends _ e

    inline : is_inline p ≡ true
    inline = not_false (is_inline p) parts.1

    same : next_role a ps ≡ right
    same = next_alike a spot.state al ps

    between : is_between_items spot.state.last right ≡ true
    between = ap₂ is_between_items (sym al.last) (sym same) ∙ sym first.item ∙ i

    closing : closes right ≡ false
    closing = ap closes (sym same) ∙ ap closes (sym first.role) ∙ cl

rows_at_comment : (layout : Layout) (m k : ℕ) (style : Style) → is_filled (enclosed_by style) ≡ false
    → (a : LayoutState) (spot : Spot) (p : Piece) (ps : List Piece) → AreAlike a spot.state
    → Inside style (suc m) k spot.state.opened → is_comment p.class ≡ true → Others layout m style ps
    → Rows m style (owes style spot.last) (after_comment layout p (tokens_ahead layout a ps))
    (after_comment layout (first_again layout spot p ps)
    (tokens_ahead layout a (relaid layout (after_first layout spot p ps) ps)))
rows_at_comment layout m k style f a spot p ps al ins c others =
    rows_comment layout m style a (next_role a ps) (owes style spot.last) (owes style after.last) p
    (first_again layout spot p ps) (tokens_ahead layout a ps)
    (tokens_ahead layout a (relaid layout after ps))
    (first_ahead layout a ps)
    (comment_kept layout m k style f a spot p ps al ins c after (ap (λ s. s.last) at))
    (others k a after (subst (λ s. AreAlike a s.state) (sym at)
    (record { last = al.last; structure = al.structure; kinds = al.kinds }))
    (subst (λ s. Inside style (suc m) k s.state.opened) (sym at) ins))
  where
    after : Spot
    after = after_first layout spot p ps

    gap : Gap
    gap = gap_before layout spot (next_role spot.state (p ∷ ps)) p ps

    at : after ≡ after_comment_at spot (depth_after gap spot.state.line)
        (comment_last p.class (leads gap spot.last spot.state.last))
        (column_after layout spot.column (gap_text layout gap ++ piece_text layout spot gap p))
    at = comment_spot layout spot gap (next_role spot.state (p ∷ ps)) p c

token_gap_here : (layout : Layout) (spot : Spot) (right : Role) (p : Piece) (ps : List Piece)
    → is_comment p.class ≡ false
    → gap_before layout spot right p ps ≡ gap_before_token layout spot right p.line_ends
token_gap_here layout spot right p ps c = rw c refl

pub role_here : (s : LayoutState) (p : Piece) (ps : List Piece) → is_comment p.class ≡ false
    → next_role s (p ∷ ps) ≡ role_in s p.class (operand_follows ps)
role_here s p ps c = rw c refl

pub equal_self : (n : ℕ) → (n == n) ≡ true
equal_self n = grind arith

-- inside the bracket after a token that does not close it
inside_after : (m k : ℕ) (style : Style) (s : LayoutState) (line : ℕ) (right : Role) (other : Style)
    → Inside style (suc m) k s.opened → (length s.opened == suc m && closes right) ≡ false
    → (j : ℕ) × Inside style (suc m) j (opened_after_token s line right other)
inside_after m k style s line right other ins e = go (opens right) (closes right) refl refl
  where
    less : (k : ℕ) (opened : Opened) → Inside style (suc m) k opened → (length opened == suc m) ≡ false
        → (j : ℕ) × Inside style (suc m) j (drop 1 opened)
    less zero opened h n = absurd (true≢false (sym (ap (λ x. x == suc m) h.1 ∙ equal_self (suc m)) ∙ n))
    less (suc k) [] h n = absurd h
    less (suc k) (x ∷ opened) h n = (k, h)

    go : (o c : Bool) → opens right ≡ o → closes right ≡ c
        → (j : ℕ) × Inside style (suc m) j (opened_after_token s line right other)
    go true c h i = let more = opened_more s line right other h in
        (suc k, subst (λ opened. Inside style (suc m) (suc k) opened) (sym more.1) ins)
    go false true h i =
        let left = less k s.opened ins (and_left (length s.opened == suc m) (closes right) i e) in
        (left.0, subst (λ opened. Inside style (suc m) left.0 opened) (sym (opened_less s line right other i)) left.1)
      where
        and_left : (a b : Bool) → b ≡ true → (a && b) ≡ false → a ≡ false
        and_left true b h k = absurd (true≢false (sym h ∙ k))
        and_left false b h k = refl
    go false false h i =
        (k, subst (λ opened. Inside style (suc m) k opened) (sym (opened_same s line right other h i)) ins)

-- a token that is ahead, and those after it, by whether an operand follows
abbrev with_token : Layout → LayoutState → Piece → List Piece → Bool → List Ahead
with_token layout a p ps operand =
    let right = role_in a p.class operand in
    let after = tokens_ahead layout (after_token a 0 p.class right together) ps in
    token_ahead layout a right p after ∷ after

rows_at_token : (layout : Layout) (m k : ℕ) (style : Style) → is_filled (enclosed_by style) ≡ false
    → (a : LayoutState) (spot : Spot) (p : Piece) (ps : List Piece) → AreAlike a spot.state
    → Inside style (suc m) k spot.state.opened → is_comment p.class ≡ false → Others layout m style ps
    → Rows m style (owes style spot.last) (with_token layout a p ps (operand_follows ps))
    (with_token layout a (first_again layout spot p ps) (relaid layout (after_first layout spot p ps) ps)
    (operand_follows (relaid layout (after_first layout spot p ps) ps)))
rows_at_token layout m k style f a spot p ps al ins c others =
    subst (λ operand. Rows m style (owes style spot.last) (with_token layout a p ps (operand_follows ps))
    (with_token layout a (first_again layout spot p ps) rest operand)) (sym (relaid_operand layout after ps))
    (go (length a.opened == suc m && closes right) refl)
  where
    right : Role
    right = role_in a p.class (operand_follows ps)

    now : Role
    now = next_role spot.state (p ∷ ps)

    same : right ≡ now
    same = sym (role_here a p ps c) ∙ next_alike a spot.state al (p ∷ ps)

    gap : Gap
    gap = gap_before layout spot now p ps

    depth : ℕ
    depth = depth_after gap spot.state.line

    column : ℕ
    column = column_after layout spot.column (gap_text layout gap ++ piece_text layout spot gap p)

    after : Spot
    after = after_first layout spot p ps

    at : after ≡ after_token_at layout spot depth p.class now column
    at = token_spot layout spot gap now p c

    rest : List Piece
    rest = relaid layout after ps

    flat : LayoutState
    flat = after_token a 0 p.class right together

    before : LayoutState
    before = before_next spot now

    operands : List Operands
    operands = operands_with layout before depth column now spot.ahead

    other : Style
    other = style_with layout operands depth column now spot.ahead

    alike : AreAlike flat after.state
    alike = subst (λ s. AreAlike flat s.state) (sym at)
        (subst (λ r. AreAlike flat (after_token (record before { operands = operands }) depth p.class r other)) same
        (alike_after a (record before { operands = operands })
        (record { last = al.last; structure = al.structure; kinds = al.kinds }) 0 depth p.class right together other))

    long : length a.opened ≡ suc m + k
    long = length_alike a spot.state al ∙ inside_length style (suc m) k spot.state.opened ins

    kept : (j : ℕ) → k ≡ j → (us : List Ahead) → IsKept (suc m) style (owes style spot.last)
        (token_ahead layout a right p (tokens_ahead layout flat ps))
        (token_ahead layout a right (first_again layout spot p ps) us)
    kept (suc j) e us o v cl i x =
        absurd (no_more_level m j (length a.opened) (long ∙ ap (λ n. suc m + n) e) v)
    kept zero e us o v cl i x =
        ap has_ended (token_gap_here layout spot now p ps c)
        ∙ token_below layout spot now style p.line_ends
        (subst (λ n. Inside style (suc m) n spot.state.opened) e ins).0 f
        (ap₂ is_between_items (sym al.last) (sym same) ∙ i) (ap closes (sym same) ∙ cl) o

    tail : (length a.opened == suc m && closes right) ≡ false
        → Rows m style true (tokens_ahead layout flat ps) (tokens_ahead layout flat rest)
    tail e =
        let one = inside_after m k style spot.state depth now other ins
        (ap₂ (λ (n : ℕ) (r : Role). n == suc m && closes r) (sym (length_alike a spot.state al)) (sym same) ∙ e) in
        subst (λ owed. Rows m style owed (tokens_ahead layout flat ps) (tokens_ahead layout flat rest))
        (ap (λ s. owes style s.last) at) (others one.0 flat after alike
        (subst (λ s. Inside style (suc m) one.0 s.state.opened) (sym at) one.1))

    go : (b : Bool) → (length a.opened == suc m && closes right) ≡ b → Stops b
        (IsKept (suc m) style (owes style spot.last) (token_ahead layout a right p (tokens_ahead layout flat ps))
        (token_ahead layout a right (first_again layout spot p ps) (tokens_ahead layout flat rest))
        × ((length a.opened == m) ≡ false)
        × Rows m style true (tokens_ahead layout flat ps) (tokens_ahead layout flat rest))
    go true e = tt
    go false e = (kept k refl (tokens_ahead layout flat rest), not_outside m k (length a.opened) long, tail e)

-- ---- all of them

rows_step : (layout : Layout) (m k : ℕ) (style : Style) → is_filled (enclosed_by style) ≡ false
    → (a : LayoutState) (spot : Spot) (p : Piece) (ps : List Piece) → AreAlike a spot.state
    → Inside style (suc m) k spot.state.opened → Others layout m style ps
    → Rows m style (owes style spot.last) (tokens_ahead layout a (p ∷ ps))
    (tokens_ahead layout a (relaid layout spot (p ∷ ps)))
rows_step layout m k style f a spot p ps al ins others = go (is_comment p.class) refl
  where
    rest : List Piece
    rest = relaid layout (after_first layout spot p ps) ps

    go : (b : Bool) → is_comment p.class ≡ b → Rows m style (owes style spot.last)
        (cond b (after_comment layout p (tokens_ahead layout a ps)) (with_token layout a p ps (operand_follows ps)))
        (cond b (after_comment layout (first_again layout spot p ps) (tokens_ahead layout a rest))
        (with_token layout a (first_again layout spot p ps) rest (operand_follows rest)))
    go true c = rows_at_comment layout m k style f a spot p ps al ins c others
    go false c = rows_at_token layout m k style f a spot p ps al ins c others

pub rows_again : (layout : Layout) (m : ℕ) (style : Style) → is_filled (enclosed_by style) ≡ false
    → (ps : List Piece) → Others layout m style ps
rows_again layout m style f [] k a spot al ins = tt
rows_again layout m style f (p ∷ ps) k a spot al ins =
    rows_step layout m k style f a spot p ps al ins (rows_again layout m style f ps)
