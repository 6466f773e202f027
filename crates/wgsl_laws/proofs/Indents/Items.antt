-- After `;`, `{` and `}`, in a block or outside of all, an item begins.
use Rattle.std.proofs.Common.{◌≡◌, ℕ, suc, ◌-◌, ◌==◌, ◌&&◌, Bool, true, false, cond, not, refl, sym, ap, subst, ◌∙◌, List, [], ◌∷◌, drop, Option}
use Rattle.std.proofs.lemmas.Bool.{and_parts, eqb-true, not-true, true≢false}
use Rattle.wgsl_model.specs.Tokens.ClassTable.{SymAttr, SymBraceLeft, SymBraceRight, SymBracketLeft, SymComma, SymMinusMinus, SymParenLeft, SymSemicolon, TemplateArgsStart}
use Rattle.wgsl_model_tidy.specs.Layout.{Layout}
use Rattle.wgsl_model_tidy.specs.Roles.{Role, at, attribute, binary, block_end, closing, comma, item_end, semicolon, is, opens_bracket, ends_operand, begins_operand, ends_operands as role_ends, precedences}
use Rattle.wgsl_model_tidy.specs.Open.{Style, LayoutState, begins, in_arguments, in_brackets, in_members, last_after, role_in, after_token, Operands, parted, within, inner_depth, enclosing, outside_operands, up_to, operands_before}
use Rattle.wgsl_model_tidy.specs.Ahead.{Ahead}
use Rattle.wgsl_model_tidy.specs.LaidOut.{Spot, may_break, before_next, next_binds, parted_operands, operands_with}
use Rattle.wgsl_theory_tidy.proofs.Laid.{after_token_at}
use Rattle.wgsl_laws.specs.Indents.{Opened, in_block, ends_item, ends_operands, next_opened}
use Rattle.wgsl_laws.proofs.Indents.Depths.{Agree, ItemBegins, go_on, OperandsBegin, brackets_same, by_if, role_by}

-- ---- `@`

no_at : (state : LayoutState) (class : ℕ) (operand : Bool) → (class == SymAttr) ≡ false
    → not (is (role_in state class operand) at) ≡ true
no_at state class operand e =
    let P : Role → Bool = λ r. not (is r at) in
    by_if P (class == SymMinusMinus && operand) binary _ (λ h. refl)
    (role_by P (λ r p. (and_parts _ (not (is r at)) p).1) (ends_operand state.last) class
    (λ h. refl) (λ h. refl) (λ h. refl) (λ h. refl) (λ h. refl) (λ h. refl)
    (λ h. absurd (true≢false (sym h ∙ e))))

-- the last token is `@` only where its class is
pub last_at : (state : LayoutState) (class : ℕ) (operand : Bool)
    → is (last_after state (role_in state class operand)) at ≡ true → (class == SymAttr) ≡ true
last_at state class operand h = go (class == SymAttr) refl
  where
    right : Role
    right = role_in state class operand

    either : (a b c d : Bool) → is right at ≡ false
        → is (cond a attribute (cond b attribute (cond c item_end (cond d item_end right)))) at ≡ false
    either true b c d e = refl
    either false true c d e = refl
    either false false true d e = refl
    either false false false true e = refl
    either false false false false e = e

    go : (b : Bool) → (class == SymAttr) ≡ b → b ≡ true
    go true e = refl
    go false e = absurd (true≢false (sym h ∙ either (not (opens_bracket right) && is state.last at)
        (is right closing && in_arguments state.opened) (is right comma && in_members state.opened)
        (is right semicolon && not (in_brackets state.opened)) (not-true (is right at) (no_at state class operand e))))

-- ---- items

-- a token of a class that ends an item is one of three
by_item : (P : ℕ → Type 0) → P SymSemicolon → P SymBraceLeft → P SymBraceRight
    → (class : ℕ) → ends_item class ≡ true → P class
by_item P s l r class h = go (class == SymSemicolon) (class == SymBraceLeft) (class == SymBraceRight) refl refl refl h
  where
    go : (x y z : Bool) → (class == SymSemicolon) ≡ x → (class == SymBraceLeft) ≡ y → (class == SymBraceRight) ≡ z
        → cond x true (cond y true (cond z true false)) ≡ true → P class
    go true y z e f g h = subst P (sym (eqb-true class SymSemicolon e)) s
    go false true z e f g h = subst P (sym (eqb-true class SymBraceLeft f)) l
    go false false true e f g h = subst P (sym (eqb-true class SymBraceRight g)) r
    go false false false e f g h = absurd (true≢false (sym h))

-- after one that ends an item, where `@` is not before it, an item begins
pub item_after : (layout : Layout) (state : LayoutState) (xs : Opened) → Agree layout state.opened xs
    → (class : ℕ) (operand : Bool) (line : ℕ) (style : Style) (x : Option (List ℕ))
    → (ends_item class ≡ true → is state.last at ≡ false)
    → ItemBegins (ends_item class) (next_opened layout xs x class)
    (after_token state line class (role_in state class operand) style)
item_after layout state xs a class operand line style x n h =
    by_item (λ c. in_block (next_opened layout xs x c) ≡ true
    → begins (after_token state line c (role_in state c operand) style) ≡ true)
    (λ b. ended (sym (brackets_same layout state.opened xs a ∙ ap not b)))
    (λ b. rw (n h) refl) (λ b. rw (n h) refl) class h
  where
    ended : false ≡ in_brackets state.opened
        → begins (after_token state line SymSemicolon (role_in state SymSemicolon operand) style) ≡ true
    ended e = rw (n h, sym e) refl

-- ---- operands

-- before a token no others go on
pub before_go_on : (operands : List Operands) (right : Role) (binds : ℕ)
    → go_on (operands_before operands right binds) ≡ true → go_on operands ≡ true
before_go_on (parted n more ∷ outer) right binds h = refl
before_go_on [] right binds h = absurd (true≢false (sym h ∙ none (role_ends right) (is right binary)))
  where
    none : (a b : Bool) → go_on (cond a [] (cond b [] [])) ≡ false
    none true b = refl
    none false true = refl
    none false false = refl
before_go_on (within ∷ outer) right binds h = absurd (true≢false (sym h ∙ none (role_ends right) (is right binary)))
  where
    none : (a b : Bool) → go_on (cond a (within ∷ outer) (cond b (within ∷ outer) (within ∷ outer))) ≡ false
    none true b = refl
    none false true = refl
    none false false = refl

outside_none : (operands : List Operands) → go_on (outside_operands operands) ≡ false
outside_none [] = refl
outside_none (within ∷ outer) = refl
outside_none (parted n more ∷ outer) = outside_none outer

-- none begins with a token that is no operand
none_begins : (layout : Layout) (state : LayoutState) (depth column : ℕ) (right : Role) (ts : List Ahead)
    → begins_operand right ≡ false → operands_with layout state depth column right ts ≡ state.operands
none_begins layout state depth column right [] h = refl
none_begins layout state depth column right (t ∷ ts) h =
    go state.fresh (may_break (enclosing state.opened)) (begins_operand right) h
  where
    operands : List Operands
    operands = parted_operands layout t.level (inner_depth state.opened)
        (suc depth - inner_depth state.opened) column ts
        precedences state.operands

    go : (a c b : Bool) → b ≡ false → cond ((a && b) && c) operands state.operands ≡ state.operands
    go true c true h = absurd (true≢false h)
    go true c false h = refl
    go false c b h = refl

-- after a token of a class that ends operands none go on
pub operands_next : (layout : Layout) (spot : Spot) (class : ℕ) (operand : Bool) (depth column : ℕ)
    → OperandsBegin (not (ends_operands class)) (after_token_at layout spot depth class
    (role_in spot.state class operand) column).state
operands_next layout spot class operand depth column h = go (ends_operands class) refl
  where
    right : ℕ → Role
    right c = role_in spot.state c operand

    goes : ℕ → Bool
    goes c = go_on (after_token_at layout spot depth c (right c) column).state.operands

    separates : (role : Role) → role_ends role ≡ true → begins_operand role ≡ false
        → go_on (operands_with layout (before_next spot role) depth column role spot.ahead) ≡ false
    separates role e b = ap go_on (none_begins layout (before_next spot role) depth column role spot.ahead b
        ∙ ap (λ c. cond c (outside_operands spot.state.operands) (cond (is role binary)
        (up_to (next_binds spot.ahead) spot.state.operands) spot.state.operands)) e) ∙ outside_none spot.state.operands

    one_of : ends_operands class ≡ true → goes class ≡ false
    one_of e = by_class SymComma (separates comma refl refl) (λ a. by_class SymParenLeft refl (λ b.
        by_class SymBracketLeft refl (λ c. by_class TemplateArgsStart refl (λ d. by_class SymBraceLeft refl (λ f.
        by_class SymSemicolon (separates semicolon refl refl)
        (λ g. by_class SymBraceRight (outside_none (drop 1 (operands_with layout
        (before_next spot block_end) depth column block_end spot.ahead))) (λ i.
        absurd (true≢false (sym e ∙ rw (a, b, c, d, f, g, i) refl)))))))))
      where
        by_class : (k : ℕ) → goes k ≡ false → ((class == k) ≡ false → goes class ≡ false) → goes class ≡ false
        by_class k here other = by (class == k) refl
          where
            by : (b : Bool) → (class == k) ≡ b → goes class ≡ false
            by true e = ap goes (eqb-true class k e) ∙ here
            by false e = other e

    go : (b : Bool) → ends_operands class ≡ b → not b ≡ true
    go true e = absurd (true≢false (sym h ∙ one_of e))
    go false e = refl
