-- What an expression derives is passed: at every nesting what binds as a sum or tighter, within
-- template lists and brackets all of it.
use Rattle.std.proofs.Common.{◌≡◌, ℕ, suc, Bool, true, false, not, ◌&&◌, ◌||◌, List, [], ◌∷◌, refl, sym, ap, ◌∙◌, inl, inr}
use Rattle.grammar.specs.Tokens.{Token, Span}
use Rattle.grammar.specs.Grammar.{Grammar.empty, Grammar.token, Grammar.sequence, Grammar.choice, Grammar.mapped, Grammar.node, Grammar.checked, Grammar.symbol, Grammar.left_chain, Mode.checking, Chain, Chain.base, Chain.more, Means}
use Rattle.grammar.proofs.Reading.Sets.{and_true, implied}
use Rattle.grammar.proofs.Reading.Depth.{Kept, same_mode, means_mono, least}
use Rattle.wgsl_model.specs.Grammar.Symbols.{Symbol, ident, expressions, shift_expression, relational_expression, expression, Value, Rule}
use Rattle.wgsl_model.specs.Grammar.Written.{written}
use Rattle.wgsl_theory_grammar.proofs.Faults.WrittenEnds.{in_expression}
use Rattle.wgsl_theory_grammar.proofs.Tokens.CheckedRules.{checked_rule, is_checked}
use Rattle.wgsl_theory_reread.proofs.Again.{D}
use Rattle.wgsl_theory_templates.proofs.Reaching.Reach.{Role, Role.name, Role.greater, Role.opening, Role.closing, Role.short_circuit, Role.other, Role.template_start, Role.template_end, role, Place}
use Rattle.wgsl_theory_templates.proofs.Reaching.Moves.{Moves, is_inner, bracketed, bracketed_is_inner, opening_moves, closing_moves, template_start_moves, template_end_moves, flat_moves, inner_moves, role_of, all_roles, Passes, none_passes, token_passes, both_pass}

-- ---- nestings
-- what was opened and is not closed, the last first
pub data Opened : Type 0 where
  bracket template : Opened

-- after it, from a number of template lists and brackets deep
abbrev lists : ℕ → List Opened → ℕ
lists k [] = k
lists k (bracket ∷ s) = lists k s
lists k (template ∷ s) = suc (lists k s)

abbrev brackets : ℕ → ℕ → List Opened → ℕ
brackets k d [] = d
brackets k d (bracket ∷ s) = bracketed (lists k s) (brackets k d s)
brackets k d (template ∷ s) = brackets k d s

abbrev is_closed : List Opened → Bool
is_closed [] = true
is_closed (o ∷ s) = false

-- within template lists and brackets, if that was so before
abbrev is_within : Bool → List Opened → Bool
is_within b [] = b
is_within b (o ∷ s) = true

within_is_inner : (k d : ℕ) (s : List Opened) → is_within (is_inner k d) s ≡ is_inner (lists k s) (brackets k d s)
within_is_inner k d [] = refl
within_is_inner k d (bracket ∷ s) = sym (bracketed_is_inner (lists k s) (brackets k d s))
within_is_inner k d (template ∷ s) = refl

-- ---- the test
-- what is opened after a token of a role passes
abbrev step : Bool → List Opened → (List Opened → Bool) → Role → Bool
step b s f name = f s
step b s f other = f s
step b s f greater = is_within b s && f s
step b s f short_circuit = is_within b s && f s
step b s f opening = f (bracket ∷ s)
step b (bracket ∷ s) f closing = f s
step b s f template_start = f (template ∷ s)
step b (template ∷ s) f template_end = f s
step b s f r = false

-- what binds as a sum or tighter is passed at every nesting, all other expressions within template
-- lists and brackets
abbrev binds_loosely : Symbol → Bool
binds_loosely expressions = true
binds_loosely shift_expression = true
binds_loosely relational_expression = true
binds_loosely expression = true
binds_loosely n = false

abbrev passes : Symbol → Bool → Bool
passes n b = in_expression n && (b || not (binds_loosely n))

-- what is opened after a right side passes
abbrev walks : {A : Type 0} → Bool → List Opened → Rule A → (List Opened → Bool) → Bool
walks b s (empty a) f = f s
walks b s (token c) f = all_roles (step b s f) c
walks b s (sequence g h) f = walks b s g (λ t. walks b t h f)
walks b s (choice g h) f = walks b s g f && walks b s h f
walks b s (mapped m g) f = walks b s g f
walks b s (node m g) f = walks b s g f
walks b s (checked m g) f = walks b s g f
walks b s (symbol n) f = passes n (is_within b s) && f s
walks b s (left_chain m g h) f = walks b s g (λ t. walks (is_within b t) [] h is_closed && f t)

-- ---- what passes the test is passed
-- what each symbol derives is passed at the nestings that its test names
abbrev Passing : (n : Symbol) → Value n → List Token → List Token → Type 0
Passing n v xs ys = (p : Place) (k d : ℕ) → passes n (is_inner k d) ≡ true → Passes p k d k d xs ys

-- tokens lead to a nesting that passes
abbrev Leads : Place → ℕ → ℕ → List Opened → (List Opened → Bool) → List Token → List Token → Type 0
Leads p k d s f xs ys = (t : List Opened) × (f t ≡ true)
    × Passes p (lists k s) (brackets k d s) (lists k t) (brackets k d t) xs ys

stepped : (k d : ℕ) (s : List Opened) (f : List Opened → Bool) (r : Role) → step (is_inner k d) s f r ≡ true
    → (t : List Opened) × (f t ≡ true) × Moves r (lists k s) (brackets k d s) (lists k t) (brackets k d t)
stepped k d s f name e = (s, e, flat_moves name _ _ refl)
stepped k d s f other e = (s, e, flat_moves other _ _ refl)
stepped k d s f greater e =
    let w = and_true _ _ e in (s, w.1, inner_moves greater _ _ (sym (within_is_inner k d s) ∙ w.0) refl)
stepped k d s f short_circuit e =
    let w = and_true _ _ e in
    (s, w.1, inner_moves short_circuit _ _ (sym (within_is_inner k d s) ∙ w.0) refl)
stepped k d s f opening e = (bracket ∷ s, e, opening_moves _ _)
stepped k d (bracket ∷ s) f closing e = (s, e, closing_moves _ _)
stepped k d s f template_start e = (template ∷ s, e, template_start_moves _ _)
stepped k d (template ∷ s) f template_end e = (s, e, template_end_moves _ _)
stepped k d s f r e = absurd cc

all_closed : {p : Place} {k d : ℕ} {xs ys : List Token} → Leads p k d [] is_closed xs ys → Passes p k d k d xs ys
all_closed ([], e, a) = a
all_closed (o ∷ s, e, a) = absurd cc

chain_leads : {A B : Type 0} (m : A → B → Span → A) (P : A → List Token → List Token → Type 0) (Q : B
    → List Token → List Token → Type 0) (p : Place) (k d : ℕ) (s : List Opened) (test f : List Opened → Bool)
    → ((v : A) (xs ys : List Token) → P v xs ys → Leads p k d s (λ t. test t && f t) xs ys)
    → ((t : List Opened) → test t ≡ true → (v : B) (xs ys : List Token) → Q v xs ys
    → Passes p (lists k t) (brackets k d t) (lists k t) (brackets k d t) xs ys)
    → (xs : List Token) (v : A) (ys : List Token) → Chain m P Q xs v ys
    → Leads p k d s (λ t. test t && f t) xs ys
chain_leads m P Q p k d s test f F H xs _ _ (base v ys c) = F v xs ys c
chain_leads m P Q p k d s test f F H xs _ _ (more a b ys zs c i) =
    let w = chain_leads m P Q p k d s test f F H xs a ys c in
    (w.0, w.1, both_pass w.2 (H w.0 (and_true (test w.0) (f w.0) w.1).0 b ys zs i))

leads : {A : Type 0} (p : Place) (k d : ℕ) (s : List Opened) (g : Rule A) (f : List Opened → Bool)
    → walks (is_inner k d) s g f ≡ true → (v : A) (xs ys : List Token)
    → Means checking Passing g v xs ys → Leads p k d s f xs ys
leads p k d s (empty a) f e v xs ys h = (s, e, none_passes h.1)
leads p k d s (token c) f e v xs ys h =
    let w = stepped k d s f (role v.class) (role_of (step (is_inner k d) s f) v.class c e h.0) in
    (w.0, w.1, token_passes w.2 h.1)
leads p k d s (sequence g g') f e v xs ys (ms, x, y) =
    let a = leads p k d s g (λ t. walks (is_inner k d) t g' f) e v.0 xs ms x in
    let b = leads p k d a.0 g' f a.1 v.1 ms ys y in
    (b.0, b.1, both_pass a.2 b.2)
leads p k d s (choice g g') f e v xs ys (inl x) = leads p k d s g f (and_true _ _ e).0 v xs ys x
leads p k d s (choice g g') f e v xs ys (inr x) = leads p k d s g' f (and_true _ _ e).1 v xs ys x
leads p k d s (mapped m g) f e v xs ys h = leads p k d s g f e h.0 xs ys h.2
leads p k d s (node m g) f e v xs ys h = leads p k d s g f e h.0 xs ys h.2
leads p k d s (checked m g) f e v xs ys h = leads p k d s g f e v xs ys h.1
leads p k d s (symbol n) f e v xs ys h =
    let w = and_true _ _ e in
    (s, w.1, h p (lists k s) (brackets k d s) (ap (passes n) (sym (within_is_inner k d s)) ∙ w.0))
leads p k d s (left_chain m g g') f e v xs ys h =
    let test : List Opened → Bool = λ t. walks (is_within (is_inner k d) t) [] g' is_closed in
    let w = chain_leads m (Means checking Passing g) (Means checking Passing g') p k d s test f
    (leads p k d s g (λ t. test t && f t) e)
    (λ t i b us vs y. all_closed (leads p (lists k t) (brackets k d t) [] g' is_closed
    (ap (λ (c : Bool). walks c [] g' is_closed) (sym (within_is_inner k d t)) ∙ i) b us vs y)) xs v ys h in
    (w.0, (and_true (test w.0) (f w.0) w.1).1, w.2)

-- ---- the rules
tests : (n : Symbol) (b : Bool) → (not (passes n b) || walks b [] (checked_rule n) is_closed) ≡ true
tests ident true = refl
tests ident false = refl
tests n true = refl
tests n false = refl

rules : (n : Symbol) → Kept (Means checking Passing (written n)) (Passing n)
rules n v xs ys h p k d e = all_closed (leads p k d [] (checked_rule n) is_closed (implied (passes n
    (is_inner k d)) _ (tests n (is_inner k d)) e) v xs ys (is_checked Passing n v xs ys h))

-- what a right side that passes the test derives is passed
pub walked : {A : Type 0} (p : Place) (g : Rule A) → walks false [] g is_closed ≡ true
    → (v : A) (xs ys : List Token) → Means checking D g v xs ys → Passes p 0 0 0 0 xs ys
walked p g e v xs ys h = all_closed (leads p 0 0 [] g is_closed e v xs ys (means_mono checking
    checking (same_mode checking) D Passing (least checking written Passing rules) g v xs ys h))
