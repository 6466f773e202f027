-- What a token leaves open, by its class.
use Rattle.std.proofs.Common.{◌≡◌, ◌⊎◌, inl, inr, ℕ, ◌==◌, ◌&&◌, Bool, true, false, cond, refl, sym, subst, [], ◌∷◌, drop}
use Rattle.std.proofs.lemmas.Bool.{true≢false, and_parts, eqb-true}
use Rattle.grammar.specs.Grammar.{is_among}
use Rattle.wgsl_model.specs.Tokens.ClassTable.{AbstractFloat, AbstractInt, F16, F32, I32, Ident, KwDiagnostic, KwElse, KwFalse, KwTrue, ReservedWord, SymAnd, SymAttr, SymBang, SymBraceLeft, SymBraceRight, SymBracketLeft, SymBracketRight, SymColon, SymComma, SymMinus, SymMinusMinus, SymParenLeft, SymParenRight, SymPeriod, SymPlusPlus, SymSemicolon, SymStar, SymTilde, TemplateArgsEnd, TemplateArgsStart, U32}
use Rattle.wgsl_model_tidy.specs.Roles.{Role, is_operator, is_assignment, name, unsuffixed, number, word, else_word, comma, semicolon, colon, period, at, step, binary, assign, minus, ampersand, prefix, opening, closing, template_start, template_end, block_start, block_end, ends_operand, sign_role, role_of}
use Rattle.wgsl_model_tidy.specs.Open.{Open, Style, LayoutState, role_in, opened_after_token}
use Rattle.wgsl_theory_tidy.proofs.Kept.TextFronts.{by_test}
use Rattle.wgsl_theory_tidy.proofs.Kept.NestedTokens.{Effect, opens, closes, none, effect}

-- what a role does to what is open, where it has such an effect
abbrev pub HasEffect : Effect → Role → Type 0
HasEffect (opens true) right = right ≡ opening
HasEffect (opens false) right = (state : LayoutState) (line : ℕ) (style : Style)
    → (kind : Open) × (depth : ℕ) × (opened_after_token state line right style ≡ (kind, depth) ∷ state.opened)
HasEffect (closes true) right = right ≡ closing
HasEffect (closes false) right = (state : LayoutState) (line : ℕ) (style : Style)
    → opened_after_token state line right style ≡ drop 1 state.opened
HasEffect none right = (state : LayoutState) (line : ℕ) (style : Style)
    → opened_after_token state line right style ≡ state.opened

-- a role with such an effect
data Does (e : Effect) : Role → Type 0 where
  does : (right : Role) → HasEffect e right → Does e right

effect_of : (e : Effect) (right : Role) → Does e right → HasEffect e right
effect_of e _ (does right h) = h

-- ---- the roles of tokens that open and close nothing

idle_if : (b : Bool) (x y : Role) → Does none x → Does none y → Does none (cond b x y)
idle_if true x y h k = h
idle_if false x y h k = k

idle_else : (b : Bool) (x y : Role) → b ≡ false → Does none y → Does none (cond b x y)
idle_else true x y e k = absurd (true≢false e)
idle_else false x y e k = k

idle_sign : (b : Bool) (c : ℕ) → Does none (sign_role b c)
idle_sign true c = does binary (λ s l t. refl)
idle_sign false c = idle_if (c == SymMinus) minus _ (does minus (λ s l t. refl))
    (idle_if (c == SymAnd) ampersand prefix (does ampersand (λ s l t. refl)) (does prefix (λ s l t. refl)))

idle_role : (b : Bool) (c : ℕ) → is_among c (SymParenLeft ∷ SymBracketLeft ∷ []) ≡ false
    → is_among c (SymParenRight ∷ SymBracketRight ∷ []) ≡ false
    → (c == TemplateArgsStart) ≡ false → (c == SymBraceLeft) ≡ false
    → (c == TemplateArgsEnd) ≡ false → (c == SymBraceRight) ≡ false → Does none (role_of b c)
idle_role b c p q r s t u =
    idle_if (is_among c (Ident ∷ ReservedWord ∷ KwTrue ∷ KwFalse ∷ KwDiagnostic ∷ [])) name _
    (does name (λ s l t. refl))
    (idle_if (c == AbstractInt) unsuffixed _ (does unsuffixed (λ s l t. refl))
    (idle_if (is_among c (I32 ∷ U32 ∷ AbstractFloat ∷ F32 ∷ F16 ∷ [])) number _ (does number (λ s l t. refl))
    (idle_if (c == KwElse) else_word _ (does else_word (λ s l t. refl))
    (idle_else (is_among c (SymParenLeft ∷ SymBracketLeft ∷ [])) opening _ p
    (idle_else (is_among c (SymParenRight ∷ SymBracketRight ∷ [])) closing _ q
    (idle_else (c == TemplateArgsStart) template_start _ r
    (idle_else (c == TemplateArgsEnd) template_end _ t
    (idle_else (c == SymBraceLeft) block_start _ s
    (idle_else (c == SymBraceRight) block_end _ u
    (idle_if (c == SymComma) comma _ (does comma (λ s l t. refl))
    (idle_if (c == SymSemicolon) semicolon _ (does semicolon (λ s l t. refl))
    (idle_if (c == SymColon) colon _ (does colon (λ s l t. refl))
    (idle_if (c == SymPeriod) period _ (does period (λ s l t. refl))
    (idle_if (c == SymAttr) at _ (does at (λ s l t. refl))
    (idle_if (is_among c (SymMinus ∷ SymAnd ∷ SymStar ∷ [])) (sign_role b c) _ (idle_sign b c)
    (idle_if (is_among c (SymBang ∷ SymTilde ∷ [])) prefix _ (does prefix (λ s l t. refl))
    (idle_if (is_among c (SymPlusPlus ∷ SymMinusMinus ∷ [])) step _ (does step (λ s l t. refl))
    (idle_if (is_operator c) binary _ (does binary (λ s l t. refl))
    (idle_if (is_assignment c) assign word (does assign (λ s l t. refl)) (does word (λ s l t. refl)))))))))))))))))))))

-- ---- every role

among_two : (c x y : ℕ) → is_among c (x ∷ y ∷ []) ≡ true → (c ≡ x) ⊎ (c ≡ y)
among_two c x y h = go (c == x) (c == y) refl refl h
  where
    go : (s t : Bool) → (c == x) ≡ s → (c == y) ≡ t → cond s true (cond t true false) ≡ true → (c ≡ x) ⊎ (c ≡ y)
    go true t e f h = inl (eqb-true c x e)
    go false true e f h = inr (eqb-true c y f)
    go false false e f h = absurd (true≢false (sym h))

among_neither : (c x y : ℕ) → is_among c (x ∷ y ∷ []) ≡ false → ((c == x) ≡ false) × ((c == y) ≡ false)
among_neither c x y h = go (c == x) (c == y) h
  where
    go : (s t : Bool) → cond s true (cond t true false) ≡ false → (s ≡ false) × (t ≡ false)
    go true t h = absurd (true≢false h)
    go false true h = absurd (true≢false h)
    go false false h = (refl, refl)

-- the role of a token of a class, after an operand or not, has the effect of the class
abbrev RoleDoes : Bool → ℕ → Type 0
RoleDoes b c = Does (effect c) (role_of b c)

either_does : (b : Bool) (c x y : ℕ) → RoleDoes b x → RoleDoes b y → is_among c (x ∷ y ∷ []) ≡ true → RoleDoes b c
either_does b c x y h k m = go (among_two c x y m)
  where
    go : (c ≡ x) ⊎ (c ≡ y) → RoleDoes b c
    go (inl e) = subst (RoleDoes b) (sym e) h
    go (inr e) = subst (RoleDoes b) (sym e) k

role_does : (b : Bool) (c : ℕ) → RoleDoes b c
role_does b c =
    by_test (is_among c (SymParenLeft ∷ SymBracketLeft ∷ []))
    (λ h. either_does b c SymParenLeft SymBracketLeft (does opening refl) (does opening refl) h) (λ h.
    by_test (is_among c (SymParenRight ∷ SymBracketRight ∷ []))
    (λ k. either_does b c SymParenRight SymBracketRight (does closing refl) (does closing refl) k) (λ k.
    by_test (is_among c (TemplateArgsStart ∷ SymBraceLeft ∷ [])) (λ l. either_does b c TemplateArgsStart SymBraceLeft
    (does template_start (λ s l t. (_, _, refl))) (does block_start (λ s l t. (_, _, refl))) l) (λ l.
    by_test (is_among c (TemplateArgsEnd ∷ SymBraceRight ∷ [])) (λ m. either_does b c TemplateArgsEnd
    SymBraceRight (does template_end (λ s l t. refl)) (does block_end (λ s l t. refl)) m) (λ m.
    (let starts = among_neither c TemplateArgsStart SymBraceLeft l in
    let ends = among_neither c TemplateArgsEnd SymBraceRight m in
    let idle : effect c ≡ none = rw (h, k, l, m) refl in
    subst (λ e. Does e (role_of b c)) (sym idle) (idle_role b c h k starts.0 starts.1 ends.0 ends.1))))))

-- where it is, before an operand or not: `--` may be between operands
role_does_in : (state : LayoutState) (c : ℕ) (before_operand : Bool) → Does (effect c) (role_in state c before_operand)
role_does_in state c before_operand = go (c == SymMinusMinus && before_operand) refl
  where
    go : (b : Bool) → (c == SymMinusMinus && before_operand) ≡ b
        → Does (effect c) (cond b binary (role_of (ends_operand state.last) c))
    go true e = subst (λ d. Does (effect d) binary)
        (sym (eqb-true c SymMinusMinus (and_parts (c == SymMinusMinus) before_operand e).0))
        (does binary (λ s l t. refl))
    go false e = role_does (ends_operand state.last) c

pub role_effect : (state : LayoutState) (c : ℕ) (before_operand : Bool) (e : Effect) → effect c ≡ e
    → HasEffect e (role_in state c before_operand)
role_effect state c before_operand e s = subst (λ e. HasEffect e (role_in state c before_operand)) s
    (effect_of (effect c) (role_in state c before_operand) (role_does_in state c before_operand))
