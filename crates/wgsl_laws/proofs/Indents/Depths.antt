-- How deep a line is that begins with a token, by what is open there.
use Rattle.std.proofs.Common.{◌≡◌, ℕ, zero, suc, ◌+◌, ◌==◌, ◌&&◌, ◌||◌, Bool, true, false, cond, not, refl, sym, ap, subst, ◌∙◌, List, [], ◌∷◌, drop, Option, Some, None, arith}
use Rattle.std.proofs.lemmas.Bool.{and_parts, eqb-true, not-true, true≢false}
use Rattle.grammar.specs.Grammar.{is_among}
use Rattle.wgsl_model.specs.Tokens.ClassTable.{AbstractFloat, AbstractInt, F16, F32, I32, Ident, KwDiagnostic, KwElse, KwFalse, KwTrue, ReservedWord, SymAnd, SymAttr, SymBang, SymBraceLeft, SymBraceRight, SymBracketLeft, SymBracketRight, SymColon, SymComma, SymMinus, SymMinusMinus, SymParenLeft, SymParenRight, SymPeriod, SymPlusPlus, SymSemicolon, SymStar, SymTilde, TemplateArgsEnd, TemplateArgsStart, U32}
use Rattle.wgsl_model_tidy.specs.Brackets.{Line}
use Rattle.wgsl_model_tidy.specs.Layout.{Layout}
use Rattle.wgsl_model_tidy.specs.Roles.{Role, is_operator, is_assignment, name, unsuffixed, number, word, else_word, comma, semicolon, colon, period, at, step, binary, assign, minus, ampersand, prefix, opening, closing, template_start, template_end, block_start, block_end, attribute, is, ends_operand, opens, opens_bracket, closes as role_closes, sign_role, role_of}
use Rattle.wgsl_model_tidy.specs.Open.{Open, block, members, arguments, bracket, Opened as OpenedState, Operands, parted, within, Style, LayoutState, in_brackets, are_parted, operand_levels, inner_depth, outer_depth, begins, depth_within, depth_of, role_in, block_opened, opened_after_token}
use Rattle.wgsl_model_tidy.specs.LaidOut.{indentation}
use Rattle.wgsl_laws.specs.Indents.{indent, deeper, opens as token_opens, closes as token_closes, Opened, in_block, outer_indent, inner_indent, next_opened, IsSpace, IsIndented, closing as closes_there, inside, goes_on, between_operands, levels_deeper}
use Rattle.wgsl_laws.proofs.Indents.Through.{InLine, shown, hidden}

-- ---- indents

-- the blank space of a line so deep, if it is known
pub data IsAt (layout : Layout) (depth : ℕ) : Option (List ℕ) → Type 0 where
  known : IsAt layout depth (Some (indentation layout depth))
  unknown : IsAt layout depth None

pub line_at : (layout : Layout) (depth : ℕ) (l : Line) → InLine layout depth l → IsAt layout depth (indent l)
line_at layout depth _ (shown) = known
line_at layout depth _ (hidden) = unknown

deeper_at : (layout : Layout) (depth : ℕ) (x : Option (List ℕ)) → IsAt layout depth x
    → IsAt layout (suc depth) (deeper layout x)
deeper_at layout depth _ (known) = known
deeper_at layout depth _ (unknown) = unknown

space_at : (layout : Layout) (depth : ℕ) (x : Option (List ℕ)) → IsAt layout depth x
    → IsSpace x (indentation layout depth)
space_at layout depth _ (known) = refl
space_at layout depth _ (unknown) = tt

-- ---- what is open

-- what the layout has open and what is open by the tokens agree
pub data Agree (layout : Layout) : OpenedState → Opened → Type 0 where
  agree_none : Agree layout [] []
  agree_more : (kind : Open) (depth : ℕ) (os : OpenedState) (class : ℕ) (x : Option (List ℕ)) (xs : Opened)
      → in_brackets ((kind, depth) ∷ os) ≡ not (class == SymBraceLeft) → IsAt layout depth x
      → Agree layout os xs → Agree layout ((kind, depth) ∷ os) ((class, x) ∷ xs)

inner_at : (layout : Layout) (os : OpenedState) (xs : Opened) → Agree layout os xs
    → IsAt layout (inner_depth os) (inner_indent layout xs)
inner_at layout _ _ (agree_none) = known
inner_at layout _ _ (agree_more kind depth os class x xs b i a) = deeper_at layout depth x i

outer_at : (layout : Layout) (os : OpenedState) (xs : Opened) → Agree layout os xs
    → IsAt layout (outer_depth os) (outer_indent xs)
outer_at layout _ _ (agree_none) = known
outer_at layout _ _ (agree_more kind depth os class x xs b i a) = i

pub brackets_same : (layout : Layout) (os : OpenedState) (xs : Opened) → Agree layout os xs
    → in_brackets os ≡ not (in_block xs)
brackets_same layout _ _ (agree_none) = refl
brackets_same layout _ _ (agree_more kind depth os class x xs b i a) = b

outer_agree : (layout : Layout) (os : OpenedState) (xs : Opened) → Agree layout os xs
    → Agree layout (drop 1 os) (drop 1 xs)
outer_agree layout _ _ (agree_none) = agree_none
outer_agree layout _ _ (agree_more kind depth os class x xs b i a) = a

-- ---- roles

-- a role that opens and closes nothing
abbrev pub is_idle : Role → Bool
is_idle right = not (role_closes right) && not (opens right)

-- nor is `@`
abbrev pub is_plain : Role → Bool
is_plain right = is_idle right && not (is right at)

pub by_if : (P : Role → Bool) (b : Bool) (x y : Role) → (b ≡ true → P x ≡ true) → P y ≡ true → P (cond b x y) ≡ true
by_if P true x y h k = h refl
by_if P false x y h k = k

-- What holds of all roles that are plain holds of that of a token of a class, after an operand or
-- not, if it holds of the other roles that it may have.
module _ (P : Role → Bool) (plain : (right : Role) → is_plain right ≡ true → P right ≡ true) where
  plain_if : (b : Bool) (x y : Role) → is_plain x ≡ true → P y ≡ true → P (cond b x y) ≡ true
  plain_if b x y h k = by_if P b x y (λ e. plain x h) k

  sign_by : (b : Bool) (c : ℕ) → P (sign_role b c) ≡ true
  sign_by true c = plain binary refl
  sign_by false c = plain_if (c == SymMinus) minus _ refl
      (plain_if (c == SymAnd) ampersand prefix refl (plain prefix refl))

  pub role_by : (b : Bool) (c : ℕ) → (is_among c (SymParenLeft ∷ SymBracketLeft ∷ []) ≡ true → P opening ≡ true)
      → (is_among c (SymParenRight ∷ SymBracketRight ∷ []) ≡ true → P closing ≡ true)
      → ((c == TemplateArgsStart) ≡ true → P template_start ≡ true)
      → ((c == TemplateArgsEnd) ≡ true → P template_end ≡ true)
      → ((c == SymBraceLeft) ≡ true → P block_start ≡ true) → ((c == SymBraceRight) ≡ true → P block_end ≡ true)
      → ((c == SymAttr) ≡ true → P at ≡ true) → P (role_of b c) ≡ true
  role_by b c p q r s t u v =
      plain_if (is_among c (Ident ∷ ReservedWord ∷ KwTrue ∷ KwFalse ∷ KwDiagnostic ∷ [])) name _ refl
      (plain_if (c == AbstractInt) unsuffixed _ refl
      (plain_if (is_among c (I32 ∷ U32 ∷ AbstractFloat ∷ F32 ∷ F16 ∷ [])) number _ refl
      (plain_if (c == KwElse) else_word _ refl
      (by_if P (is_among c (SymParenLeft ∷ SymBracketLeft ∷ [])) opening _ p
      (by_if P (is_among c (SymParenRight ∷ SymBracketRight ∷ [])) closing _ q
      (by_if P (c == TemplateArgsStart) template_start _ r
      (by_if P (c == TemplateArgsEnd) template_end _ s
      (by_if P (c == SymBraceLeft) block_start _ t
      (by_if P (c == SymBraceRight) block_end _ u
      (plain_if (c == SymComma) comma _ refl
      (plain_if (c == SymSemicolon) semicolon _ refl
      (plain_if (c == SymColon) colon _ refl
      (plain_if (c == SymPeriod) period _ refl
      (by_if P (c == SymAttr) at _ v
      (by_if P (is_among c (SymMinus ∷ SymAnd ∷ SymStar ∷ [])) (sign_role b c) _ (λ e. sign_by b c)
      (plain_if (is_among c (SymBang ∷ SymTilde ∷ [])) prefix _ refl
      (plain_if (is_among c (SymPlusPlus ∷ SymMinusMinus ∷ [])) step _ refl
      (plain_if (is_operator c) binary _ refl
      (plain_if (is_assignment c) assign word refl (plain word refl))))))))))))))))))))

no_class : (b : Bool) → b ≡ false → {x : Bool} → b ≡ true → x ≡ true
no_class b e h = absurd (true≢false (sym h ∙ e))

-- what a token of a class does, by its role
data Does (class : ℕ) : Role → Type 0 where
  opens_block : (class == SymBraceLeft) ≡ true → token_closes class ≡ false → Does class block_start
  opens_list : (right : Role) → opens_bracket right ≡ true → (class == SymBraceLeft) ≡ false
      → token_opens class ≡ true → token_closes class ≡ false → Does class right
  closes_any : (right : Role) → role_closes right ≡ true → (class == SymBraceLeft) ≡ false
      → token_opens class ≡ false → token_closes class ≡ true → Does class right
  does_neither : (right : Role) → is_idle right ≡ true → (class == SymBraceLeft) ≡ false
      → token_opens class ≡ false → token_closes class ≡ false → Does class right

does : (state : LayoutState) (class : ℕ) (operand : Bool) → Does class (role_in state class operand)
does state class operand =
    by_class SymParenLeft (opens_list opening refl refl refl refl) (λ a.
    by_class SymBracketLeft (opens_list opening refl refl refl refl) (λ b.
    by_class SymParenRight (closes_any closing refl refl refl refl) (λ c.
    by_class SymBracketRight (closes_any closing refl refl refl refl) (λ d.
    by_class TemplateArgsStart (opens_list template_start refl refl refl refl) (λ e.
    by_class TemplateArgsEnd (closes_any template_end refl refl refl refl) (λ f.
    by_class SymBraceLeft (opens_block refl refl) (λ g.
    by_class SymBraceRight (closes_any block_end refl refl refl refl) (λ h.
    (let openings : is_among class (SymParenLeft ∷ SymBracketLeft ∷ []) ≡ false = rw (a, b) refl in
    let closings : is_among class (SymParenRight ∷ SymBracketRight ∷ []) ≡ false = rw (c, d) refl in
    does_neither (role_in state class operand)
    (by_if is_idle (class == SymMinusMinus && operand) binary _ (λ e. refl)
    (role_by is_idle (λ r p. (and_parts (is_idle r) (not (is r at)) p).0) (ends_operand state.last) class
    (no_class _ openings) (no_class _ closings) (no_class _ e) (no_class _ f) (no_class _ g) (no_class _ h)
    (λ p. refl))) g (rw (a, b, e, g) refl) (rw (c, d, f, h) refl))))))))))
  where
    by_class : (k : ℕ) → Does k (role_in state k operand)
        → ((class == k) ≡ false → Does class (role_in state class operand))
        → Does class (role_in state class operand)
    by_class k here other = go (class == k) refl
      where
        go : (b : Bool) → (class == k) ≡ b → Does class (role_in state class operand)
        go true e = subst (λ c. Does c (role_in state c operand)) (sym (eqb-true class k e)) here
        go false e = other e

-- ---- a line

list_closes_none : (right : Role) → opens_bracket right ≡ true → role_closes right ≡ false
list_closes_none opening h = refl
list_closes_none template_start h = refl
list_closes_none right h = absurd (true≢false (sym h))

depth_inside : (state : LayoutState) (right : Role) → role_closes right ≡ false
    → depth_of state right ≡ depth_within state right
depth_inside state right h = rw h refl

depth_closing : (state : LayoutState) (right : Role) → role_closes right ≡ true
    → depth_of state right ≡ outer_depth state.opened
depth_closing state right h = rw h refl

not_false : (b : Bool) → not b ≡ false → b ≡ true
not_false true h = refl
not_false false h = absurd (true≢false h)

or_first : (x y : Bool) → (x || y) ≡ false → x ≡ false
or_first true y h = absurd (true≢false h)
or_first false y h = refl

-- where an item ends before a token in a block or outside of all, another begins
abbrev pub ItemBegins : Bool → Opened → LayoutState → Type 0
ItemBegins after_item xs state = after_item ≡ true → in_block xs ≡ true → begins state ≡ true

no_item : (after_item : Bool) (xs : Opened) (state : LayoutState) → ItemBegins after_item xs state
    → in_block xs ≡ true → begins state ≡ false → after_item ≡ false
no_item true xs state h b e = absurd (true≢false (sym (h refl b) ∙ e))
no_item false xs state h b e = refl

-- so many levels deeper
levels_at : (layout : Layout) (n depth : ℕ) (x : Option (List ℕ)) → IsAt layout depth x
    → IsAt layout (n + depth) (levels_deeper layout n x)
levels_at layout zero depth x h =
    let none : depth ≡ 0 + depth = omega arith in subst (λ n. IsAt layout n x) none h
levels_at layout (suc n) depth x h =
    let one : suc (n + depth) ≡ suc n + depth = omega arith in
    subst (λ m. IsAt layout m (levels_deeper layout (suc n) x)) one
    (deeper_at layout (n + depth) (levels_deeper layout n x) (levels_at layout n depth x h))

-- operands go on
abbrev pub go_on : List Operands → Bool
go_on (parted n more ∷ outer) = true
go_on operands = false

-- lines begin before operators only there
parted_go_on : (operands : List Operands) → are_parted operands ≡ true → go_on operands ≡ true
parted_go_on [] h = absurd (true≢false (sym h))
parted_go_on (within ∷ outer) h = absurd (true≢false (sym h))
parted_go_on (parted n more ∷ outer) h = refl

-- where they go on, what is before is in operands
abbrev pub OperandsBegin : Bool → LayoutState → Type 0
OperandsBegin in_operands state = go_on state.operands ≡ true → in_operands ≡ true

module _ (layout : Layout) (state : LayoutState) (class : ℕ) (xs : Opened) (a : Agree layout state.opened xs)
    (item : Bool) (i : ItemBegins item xs state) (operands : Bool) (o : OperandsBegin operands state) where
  indented_inside : (right : Role) → token_closes class ≡ false
      → IsIndented layout xs item operands class (indentation layout (depth_within state right))
  indented_inside right c = parted_or (are_parted state.operands) refl
    where
      inner : IsAt layout (inner_depth state.opened) (inner_indent layout xs)
      inner = inner_at layout state.opened xs a

      go : (b d : Bool) → in_brackets state.opened ≡ b → (begins state || is right block_start) ≡ d
          → IsIndented layout xs item operands class (indentation layout
          (cond (b || d) (inner_depth state.opened) (suc (inner_depth state.opened))))
      go true d e f = inside c (space_at layout (inner_depth state.opened) (inner_indent layout xs) inner)
      go false true e f = inside c (space_at layout (inner_depth state.opened) (inner_indent layout xs) inner)
      go false false e f =
          let here = not_false (in_block xs) (sym (brackets_same layout state.opened xs a) ∙ e) in
          goes_on c here (no_item item xs state i here (or_first (begins state) (is right block_start) f))
          (space_at layout (suc (inner_depth state.opened)) (deeper layout (inner_indent layout xs))
          (deeper_at layout (inner_depth state.opened) (inner_indent layout xs) inner))

      more : ℕ
      more = operand_levels state.operands

      parted_or : (b : Bool) → are_parted state.operands ≡ b
          → IsIndented layout xs item operands class (indentation layout
          (cond b (more + inner_depth state.opened)
          (cond (in_brackets state.opened || (begins state || is right block_start))
          (inner_depth state.opened) (suc (inner_depth state.opened)))))
      parted_or true e = between_operands more c (o (parted_go_on state.operands e))
          (space_at layout (more + inner_depth state.opened) (levels_deeper layout more (inner_indent layout xs))
          (levels_at layout more (inner_depth state.opened) (inner_indent layout xs) inner))
      parted_or false e = go (in_brackets state.opened) (begins state || is right block_start) refl refl

  indented_by : (right : Role) → Does class right
      → IsIndented layout xs item operands class (indentation layout (depth_of state right))
  indented_by _ (opens_block e c) = indented_inside block_start c
  indented_by _ (opens_list right o e p c) =
      subst (λ d. IsIndented layout xs item operands class (indentation layout d))
      (sym (depth_inside state right (list_closes_none right o))) (indented_inside right c)
  indented_by _ (closes_any right h e o c) =
      subst (λ d. IsIndented layout xs item operands class (indentation layout d)) (sym (depth_closing state right h))
      (closes_there c (space_at layout (outer_depth state.opened) (outer_indent xs)
      (outer_at layout state.opened xs a)))
  indented_by _ (does_neither right h e o c) =
      let parts = and_parts (not (role_closes right)) (not (opens right)) h in
      subst (λ d. IsIndented layout xs item operands class (indentation layout d))
      (sym (depth_inside state right (not-true (role_closes right) parts.0))) (indented_inside right c)

  -- the line of a token is as deep as it is to be
  pub indented : (operand : Bool)
      → IsIndented layout xs item operands class (indentation layout (depth_of state (role_in state class operand)))
  indented operand = indented_by (role_in state class operand) (does state class operand)

-- ---- what is open after a token

module _ (layout : Layout) (state : LayoutState) (class : ℕ) (xs : Opened) (a : Agree layout state.opened xs) where
  block_kind : (b : Bool) (depth : ℕ) (os : OpenedState) → in_brackets ((cond b members block, depth) ∷ os) ≡ false
  block_kind true depth os = refl
  block_kind false depth os = refl

  list_kind : (b : Bool) (style : Style) (depth : ℕ) (os : OpenedState)
      → in_brackets ((cond b (arguments style) (bracket style), depth) ∷ os) ≡ true
  list_kind true style depth os = refl
  list_kind false style depth os = refl

  -- a bracket or a template list
  list_opened : (line : ℕ) (style : Style) (right : Role) → opens_bracket right ≡ true
      → (kind : Open) × (opened_after_token state line right style ≡ (kind, line) ∷ state.opened)
      × (in_brackets ((kind, line) ∷ state.opened) ≡ true)
  list_opened line style opening h = (_, refl, list_kind (is state.last attribute) style line state.opened)
  list_opened line style template_start h = (_, refl, refl)
  list_opened line style right h = absurd (true≢false (sym h))

  one_closed : (line : ℕ) (style : Style) (right : Role) → role_closes right ≡ true
      → opened_after_token state line right style ≡ drop 1 state.opened
  one_closed line style closing h = refl
  one_closed line style template_end h = refl
  one_closed line style block_end h = refl
  one_closed line style right h = absurd (true≢false (sym h))

  none_changed : (line : ℕ) (style : Style) (right : Role) → is_idle right ≡ true
      → opened_after_token state line right style ≡ state.opened
  none_changed line style opening h = absurd (true≢false (sym h))
  none_changed line style closing h = absurd (true≢false (sym h))
  none_changed line style template_start h = absurd (true≢false (sym h))
  none_changed line style template_end h = absurd (true≢false (sym h))
  none_changed line style block_start h = absurd (true≢false (sym h))
  none_changed line style block_end h = absurd (true≢false (sym h))
  none_changed line style right h = refl

  next_by : (x : Option (List ℕ)) (e o c : Bool) → (class == SymBraceLeft) ≡ e → token_opens class ≡ o
      → token_closes class ≡ c → next_opened layout xs x class
      ≡ cond e ((class, inner_indent layout xs) ∷ xs) (cond o ((class, x) ∷ xs) (cond c (drop 1 xs) xs))
  next_by x e o c h k l =
      let at : Bool → Bool → Bool → Opened = λ e o c. cond e ((class, inner_indent layout xs) ∷ xs)
      (cond o ((class, x) ∷ xs) (cond c (drop 1 xs) xs)) in
      ap (λ b. at b (token_opens class) (token_closes class)) h ∙ ap (λ b. at e b (token_closes class)) k
      ∙ ap (at e o) l

  agree_by : (line : ℕ) (style : Style) (x : Option (List ℕ)) → IsAt layout line x
      → (right : Role) → Does class right
      → Agree layout (opened_after_token state line right style) (next_opened layout xs x class)
  agree_by line style x i _ (opens_block e c) =
      let kind : in_brackets ((block_opened state, inner_depth state.opened) ∷ state.opened)
      ≡ not (class == SymBraceLeft) =
      block_kind state.structure (inner_depth state.opened) state.opened ∙ ap not (sym e) in
      subst (Agree layout ((block_opened state, inner_depth state.opened) ∷ state.opened))
      (sym (next_by x true _ _ e refl refl))
      (agree_more (block_opened state) (inner_depth state.opened) state.opened class (inner_indent layout xs) xs kind
      (inner_at layout state.opened xs a) a)
  agree_by line style x i _ (opens_list right h e o c) =
      let list = list_opened line style right h in
      subst (λ os. Agree layout os (next_opened layout xs x class)) (sym list.1)
      (subst (Agree layout ((list.0, line) ∷ state.opened)) (sym (next_by x false true _ e o refl))
      (agree_more list.0 line state.opened class x xs (list.2 ∙ ap not (sym e)) i a))
  agree_by line style x i _ (closes_any right h e o c) =
      subst (λ os. Agree layout os (next_opened layout xs x class)) (sym (one_closed line style right h))
      (subst (Agree layout (drop 1 state.opened)) (sym (next_by x false false true e o c))
      (outer_agree layout state.opened xs a))
  agree_by line style x i _ (does_neither right h e o c) =
      subst (λ os. Agree layout os (next_opened layout xs x class)) (sym (none_changed line style right h))
      (subst (Agree layout state.opened) (sym (next_by x false false false e o c)) a)

  pub agree_after : (operand : Bool) (line : ℕ) (style : Style) (x : Option (List ℕ)) → IsAt layout line x
      → Agree layout (opened_after_token state line (role_in state class operand) style)
      (next_opened layout xs x class)
  agree_after operand line style x i =
      agree_by line style x i (role_in state class operand) (does state class operand)
