-- What the role of a class says of it.
use Rattle.std.proofs.Common.{◌≡◌, ℕ, zero, suc, Bool, true, false, not, cond, List, [], ◌∷◌, refl, sym, subst, eqb, eqb-true, inl, inr}
use Rattle.std.proofs.lemmas.Bool.{false_from_ne_true}
use Rattle.grammar.specs.Grammar.{is_among}
use Rattle.grammar.proofs.Reading.Sets.{clash, cond_either, not_true}
use Rattle.wgsl_model.specs.Tokens.ClassTable.{Ident, KwTrue, KwFalse, SymAndAnd, SymBracketLeft, SymBracketRight, SymOrOr, SymParenLeft, SymParenRight, SymShiftRightAssign, TemplateArgsStart, TemplateArgsEnd}
use Rattle.wgsl_model.specs.Tokens.Templates.{is_word, is_opening, is_closing, begins_with_greater, is_short_circuit, goes_on}
use Rattle.wgsl_theory_grammar.proofs.Tokens.Classes.{passes_on, in_both, opening_word, closing_word, greater_word, short_circuit_word, opening_greater, opening_short_circuit, closing_greater, goes_on_zero, goes_on_deeper}
use Rattle.wgsl_theory_templates.proofs.Reaching.Roles.{is_of_expressions}
use Rattle.wgsl_theory_templates.proofs.Reaching.Reach.{Role, Role.name, Role.keyword, Role.greater, Role.greater_stop, Role.opening, Role.closing, Role.short_circuit, Role.stop, Role.other, Role.template_start, Role.template_end, role}
use Rattle.wgsl_theory_templates.proofs.Lexed.Shapes.{is_word_role, is_greater_role, is_plain_role}

-- a token that is nothing to a template list
abbrev pub IsPlain : ℕ → Type 0
IsPlain c = (is_word c ≡ false) × (is_opening c ≡ false) × (is_closing c ≡ false)
    × (begins_with_greater c ≡ false) × (is_short_circuit c ≡ false)

-- the marks of a template list
abbrev pub is_mark_role : Role → Bool
is_mark_role template_start = true
is_mark_role template_end = true
is_mark_role r = false

-- what each role says of a class
abbrev pub Says : ℕ → Role → Type 0
Says c name = is_word c ≡ true
Says c keyword = is_word c ≡ true
Says c greater = begins_with_greater c ≡ true
Says c greater_stop = begins_with_greater c ≡ true
Says c opening = is_opening c ≡ true
Says c closing = is_closing c ≡ true
Says c short_circuit = is_short_circuit c ≡ true
Says c other = IsPlain c
Says c stop = IsPlain c
Says c template_start = is_among c (TemplateArgsStart ∷ []) ≡ true
Says c template_end = is_among c (TemplateArgsEnd ∷ []) ≡ true

-- by a test, one role or another
by_test : (P : Role → Type 0) (b : Bool) (x y : Role) → (b ≡ true → P x) → (b ≡ false → P y) → P (cond b x y)
by_test P true x y f g = f refl
by_test P false x y f g = g refl

-- the role of a class says so of it
pub role_says : (c : ℕ) → Says c (role c)
role_says c =
    by_test (Says c) (is_among c (TemplateArgsStart ∷ [])) template_start _ (λ e. e) (λ _.
    by_test (Says c) (is_among c (TemplateArgsEnd ∷ [])) template_end _ (λ e. e) (λ _.
    by_test (Says c) (is_among c (Ident ∷ KwTrue ∷ KwFalse ∷ [])) name _
    (λ e. passes_on is_word c (Ident ∷ KwTrue ∷ KwFalse ∷ []) refl e) (λ _.
    by_test (Says c) (is_word c) keyword _ (λ e. e) (λ w.
    by_test (Says c) (is_among c (SymShiftRightAssign ∷ [])) greater_stop _
    (λ e. passes_on begins_with_greater c (SymShiftRightAssign ∷ []) refl e) (λ _.
    by_test (Says c) (begins_with_greater c) greater _ (λ e. e) (λ g.
    by_test (Says c) (is_opening c) opening _ (λ e. e) (λ o.
    by_test (Says c) (is_closing c) closing _ (λ e. e) (λ l.
    by_test (Says c) (is_short_circuit c) short_circuit _ (λ e. e) (λ s.
    by_test (Says c) (is_of_expressions c) other stop (λ _. (w, o, l, g, s)) (λ _. (w, o, l, g, s)))))))))))

-- ---- from a role to its classes
word_says : (c : ℕ) (r : Role) → Says c r → is_word_role r ≡ true → is_word c ≡ true
word_says c name s e = s
word_says c keyword s e = s
word_says c r s e = absurd cc

pub word_class : (c : ℕ) → is_word_role (role c) ≡ true → is_word c ≡ true
word_class c e = word_says c (role c) (role_says c) e

greater_says : (c : ℕ) (r : Role) → Says c r → is_greater_role r ≡ true → begins_with_greater c ≡ true
greater_says c greater s e = s
greater_says c greater_stop s e = s
greater_says c r s e = absurd cc

pub greater_class : (c : ℕ) → is_greater_role (role c) ≡ true → begins_with_greater c ≡ true
greater_class c e = greater_says c (role c) (role_says c) e

plain_says : (c : ℕ) (r : Role) → Says c r → is_plain_role r ≡ true → IsPlain c
plain_says c other s e = s
plain_says c stop s e = s
plain_says c r s e = absurd cc

pub plain_class : (c : ℕ) → is_plain_role (role c) ≡ true → IsPlain c
plain_class c e = plain_says c (role c) (role_says c) e

pub opening_class : (c : ℕ) → role c ≡ opening → is_opening c ≡ true
opening_class c e = subst (λ (r : Role). Says c r) e (role_says c)

pub closing_class : (c : ℕ) → role c ≡ closing → is_closing c ≡ true
closing_class c e = subst (λ (r : Role). Says c r) e (role_says c)

pub short_circuit_class : (c : ℕ) → role c ≡ short_circuit → is_short_circuit c ≡ true
short_circuit_class c e = subst (λ (r : Role). Says c r) e (role_says c)

-- ---- what a list goes on after
pub plain_goes_on : (depth c : ℕ) → IsPlain c → goes_on depth c ≡ true
plain_goes_on zero c h = goes_on_zero c h.1 h.2 h.3 h.4
plain_goes_on (suc depth) c h = goes_on_deeper depth c h.1 h.2

pub greater_goes_on : (depth c : ℕ) → begins_with_greater c ≡ true → goes_on (suc depth) c ≡ true
greater_goes_on depth c g = goes_on_deeper depth c (false_from_ne_true _ (λ o. opening_greater c o g))
    (false_from_ne_true _ (λ l. closing_greater c l g))

pub short_circuit_goes_on : (depth c : ℕ) → is_short_circuit c ≡ true → goes_on (suc depth) c ≡ true
short_circuit_goes_on depth c s =
    goes_on_deeper depth c (false_from_ne_true _ (λ o. opening_short_circuit c o s)) (false_from_ne_true _
    (λ l. in_both c (SymParenRight ∷ SymBracketRight ∷ []) (SymAndAnd ∷ SymOrOr ∷ []) refl l s))

-- ---- no mark of a template list
pub word_unmarked : (r : Role) → is_word_role r ≡ true → is_mark_role r ≡ false
word_unmarked name e = refl
word_unmarked keyword e = refl
word_unmarked r e = absurd cc

pub greater_unmarked : (r : Role) → is_greater_role r ≡ true → is_mark_role r ≡ false
greater_unmarked greater e = refl
greater_unmarked greater_stop e = refl
greater_unmarked r e = absurd cc

pub plain_unmarked : (r : Role) → is_plain_role r ≡ true → is_mark_role r ≡ false
plain_unmarked other e = refl
plain_unmarked stop e = refl
plain_unmarked r e = absurd cc

-- ---- no word
pub greater_no_word : (c : ℕ) → begins_with_greater c ≡ true → is_word c ≡ false
greater_no_word c g = false_from_ne_true _ (λ w. greater_word c g w)

pub short_circuit_no_word : (c : ℕ) → is_short_circuit c ≡ true → is_word c ≡ false
short_circuit_no_word c s = false_from_ne_true _ (λ w. short_circuit_word c s w)

-- ---- from a class to its role
-- what holds of each class of a list
abbrev AllOf : (ℕ → Type 0) → List ℕ → Type 0
AllOf P [] = Unit {0}
AllOf P (c ∷ s) = P c × AllOf P s

of_each : (P : ℕ → Type 0) (c : ℕ) (s : List ℕ) → AllOf P s → is_among c s ≡ true → P c
of_each P c [] h e = absurd cc
of_each P c (d ∷ s) h e = elim (cond_either (eqb c d) (is_among c s) e) [
  | inl q ↦ subst P (sym (eqb-true c d q)) h.0
  | inr q ↦ of_each P c s h.1 q
]

pub opening_role : (c : ℕ) → is_opening c ≡ true → role c ≡ opening
opening_role c o = of_each (λ (d : ℕ). role d ≡ opening) c (SymParenLeft ∷ SymBracketLeft ∷ []) (refl, (refl, tt)) o

pub closing_role : (c : ℕ) → is_closing c ≡ true → role c ≡ closing
closing_role c l = of_each (λ (d : ℕ). role d ≡ closing) c (SymParenRight ∷ SymBracketRight ∷ []) (refl, (refl, tt)) l

word_role_of : (c : ℕ) (r : Role) → Says c r → is_word c ≡ true → is_word_role r ≡ true
word_role_of c name s w = refl
word_role_of c keyword s w = refl
word_role_of c greater s w = absurd (greater_word c s w)
word_role_of c greater_stop s w = absurd (greater_word c s w)
word_role_of c opening s w = absurd (opening_word c s w)
word_role_of c closing s w = absurd (closing_word c s w)
word_role_of c short_circuit s w = absurd (short_circuit_word c s w)
word_role_of c other s w = clash _ w s.0
word_role_of c stop s w = clash _ w s.0
word_role_of c template_start s w = clash _ w
    (not_true (is_word c) (passes_on (λ d. not (is_word d)) c (TemplateArgsStart ∷ []) refl s))
word_role_of c template_end s w = clash _ w
    (not_true (is_word c) (passes_on (λ d. not (is_word d)) c (TemplateArgsEnd ∷ []) refl s))

pub word_role : (c : ℕ) → is_word c ≡ true → is_word_role (role c) ≡ true
word_role c w = word_role_of c (role c) (role_says c) w
