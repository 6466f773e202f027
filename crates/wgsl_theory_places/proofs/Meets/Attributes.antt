-- What is met at names after `.`, in the arguments of attributes, and at attributes.
use Rattle.std.proofs.Common.{◌≡◌, inl, inr, ℕ, Bool, true, false, cond, eqb, eqb-true, List, [], ◌∷◌, Option, None, Some, refl, sym, ap, subst, ◌∙◌, append-nil}
use Rattle.grammar.specs.Tokens.{Token, Fault}
use Rattle.grammar.specs.Grammar.{Mode.checking, Means}
use Rattle.wgsl_model.specs.Tokens.ClassTable.{Ident, ReservedWord, SymBracketLeft, SymBracketRight, SymParenLeft, SymParenRight, SymPeriod}
use Rattle.wgsl_model.specs.Trees.Expressions.{ExpressionNode, Expression}
use Rattle.wgsl_model.specs.Grammar.Symbols.{ident, arguments, component}
use Rattle.wgsl_model.specs.Grammar.Written.{written}
use Rattle.wgsl_model_names.specs.Names.{names_in_expression}
use Rattle.wgsl_model_minify.specs.Occurrences.{Occurrence, occurrences}
use Rattle.wgsl_model_places.specs.Roles as roles
use Rattle.wgsl_model_places.specs.Roles.{Declared, Role, uses, unknown, word, Name, named}
use Rattle.wgsl_model_places.specs.Items as items
use Rattle.wgsl_model_places.specs.Items.{Last, attribute, period, other, Item, State, gone_on}
use Rattle.wgsl_model_places.specs.Signs.{closing, period_sign, sign_of, name_at, first_class}
use Rattle.wgsl_model_places.specs.Steps.{with_item, going_on, inside, role_of, after_name, at_name, opening_by, at_sign_of, takes_name, at_token}
use Rattle.wgsl_model_places.specs.Places.{named_occurs}
use Rattle.wgsl_theory_places.proofs.Meets.Parts.{Met, met_then, met_as, met_to, met_at, token_met, Ready, settled, kind_of, is_plain}
use Rattle.wgsl_theory_places.proofs.Meets.Known.{of_node, of_nodes, MetInAttribute, Known}
use Rattle.wgsl_theory_places.proofs.Meets.Ways.{on, before_meets, after_meets}
use Rattle.wgsl_theory_places.proofs.Meets.Brackets.{one_class, sign_token, MetEither, or_none_in}
use Rattle.wgsl_theory_places.proofs.Meets.Expressions.{node_meets, nodes_meet}

-- ---- identifiers
identifier : (class : ℕ) (a b : Bool) (x : Fault) → eqb class Ident ≡ a → eqb class ReservedWord ≡ b
    → cond a true (cond b true false) ≡ true → cond b (Some x) None ≡ None → class ≡ Ident
identifier class true b x e k h none = eqb-true class Ident e
identifier class false true x e k h none = absurd (cc)
identifier class false false x e k h none = absurd (cc)

pub ident_known : (v : Token) (xs ys : List Token) → Means checking Known (written ident) v xs ys → Known ident v xs ys
ident_known v xs ys d = (
  d.1.1,
  identifier v.class (eqb v.class Ident) (eqb v.class ReservedWord) _ refl refl d.1.0 d.0,
)

-- ---- components
-- a name after `.` is none that occurs
after_period : (role : Role) → is_plain role ≡ true → (awaited : Option Declared) (name : Name) (σ : State)
    → (named_occurs (role_of period awaited role) name ≡ [])
    × (after_name (role_of period awaited role) name σ ≡ going_on σ)
after_period uses plain awaited name σ = (refl, refl)
after_period unknown plain awaited name σ = (refl, refl)
after_period word plain awaited name σ = (refl, refl)
after_period roles.component plain awaited name σ = absurd (cc)
after_period (roles.declares declared) plain awaited name σ = absurd (cc)

abbrev at_period : State → State
at_period σ = record (going_on σ) { last = period }

member_token : (σ : State) (t : Token) (ys : List Token) → t.class ≡ Ident
    → at_token t ys (at_period σ) ≡ at_name (name_at t) (at_period σ)
member_token σ t ys class = rw class refl

member_met : {σ : State} → Ready σ → (t : Token) (ys : List Token) → t.class ≡ Ident
    → Met (at_period σ) (going_on σ) [] (t ∷ ys) ys
member_met {σ} ready t ys class =
    let here = at_period σ in
    let role = role_of period σ.item.awaited σ.item.role in
    let it = after_period σ.item.role ready.plain σ.item.awaited (name_at t) here in
    met_to (it.1 ∙ settled σ) (token_met here t ys (named role (name_at t) ∷ [], after_name role (name_at t) here) []
    (member_token σ t ys class) (append-nil (named_occurs role (name_at t)) ∙ it.0) refl)

period_met : {σ : State} → Ready σ → (t : Token) (ys : List Token) → t.class ≡ SymPeriod
    → Met σ (at_period σ) [] (t ∷ ys) ys
period_met {σ} ready t ys class = token_met σ t ys ([], at_period σ) []
    (sign_token σ ready.last t ys SymPeriod period_sign class refl refl) refl refl

pub component_known : (c : ExpressionNode → Expression) (xs ys : List Token)
    → Means checking Known (written component) c xs ys → Known component c xs ys
component_known c xs ys (inl d) = record {
  more = λ kind. of_node kind d.0;
  after = λ kind base.
      ap (λ (it : ExpressionNode → Expression). occurrences (names_in_expression kind (it base))) (sym d.1);
  met = (before_meets SymBracketLeft refl (on (after_meets SymBracketRight refl node_meets))).meets
      d.0 xs ys d.2;
}
component_known c xs ys (inr d) = record {
  more = λ kind. [];
  after = λ kind base.
      ap (λ (it : ExpressionNode → Expression). occurrences (names_in_expression kind (it base))) (sym d.1)
      ∙ sym (append-nil (of_node kind base));
  met = λ σ ready. met_at d.2.2.1.1
      (met_then (period_met ready d.2.0.0 d.2.2.0 (one_class d.2.0.0.class SymPeriod d.2.2.1.0))
      (met_at d.2.2.2.0 (member_met ready d.2.0.1 ys d.2.2.2.1)));
}

-- ---- the arguments of an attribute
-- at a token that is no name, and not directly after `@`
at_sign : (σ : State) (t : Token) (ys : List Token) → takes_name σ.last t.class ≡ false
    → at_token t ys σ ≡ at_sign_of (sign_of t.class) (first_class ys) σ
at_sign σ t ys no_name = rw no_name refl

arguments_open : (σ : State) (role : Role) → σ.last ≡ attribute role → (t : Token) (ys : List Token)
    → t.class ≡ SymParenLeft
    → at_token t ys σ ≡ ([], inside items.arguments role σ.item σ)
arguments_open σ role last t ys class = at_sign σ t ys (rw last (rw class refl))
    ∙ ap (λ (c : ℕ). at_sign_of (sign_of c) (first_class ys) σ) class
    ∙ ap (λ (it : Last). opening_by it σ.item.next σ) last

arguments_close : (σ τ : State) (t : Token) (ys : List Token) → t.class ≡ SymParenRight → τ.last ≡ other
    → τ.bracket ≡ items.arguments → τ.around ≡ (σ.bracket, σ.item) ∷ σ.around → τ.waiting ≡ σ.waiting
    → at_token t ys τ ≡ ([], with_item σ.item σ)
arguments_close σ τ t ys class last bracket around waiting =
    sign_token τ last t ys SymParenRight closing class refl refl ∙ rw bracket (rw around (rw waiting refl))

closed : (σ τ υ : State) (os : List Occurrence) (xs : List Token) (t : Token) (ys : List Token)
    → at_token t ys τ ≡ ([], υ) → at_token t ys (going_on τ) ≡ ([], υ) → MetEither τ os xs (t ∷ ys) → Met τ υ os xs ys
closed σ τ υ os xs t ys same on (inl m) = met_as (append-nil os)
    (met_then m (token_met τ t ys ([], υ) [] same refl refl))
closed σ τ υ os xs t ys same on (inr m) = met_as (append-nil os)
    (met_then m (token_met (going_on τ) t ys ([], υ) [] on refl refl))

pub arguments_known : (es : List ExpressionNode) (xs ys : List Token)
    → Means checking Known (written arguments) es xs ys
    → MetInAttribute es xs ys
arguments_known es xs ys d σ role plain last =
    let e = d.2.2 in
    let kind = kind_of role in
    let within = inside items.arguments role σ.item σ in
    let close = one_class e.0.1.class SymParenRight e.2.2.0 in
    let met : MetEither within (of_nodes kind e.0.0) d.2.0 (e.0.1 ∷ ys) =
    subst (λ (ns : List Token). MetEither within (of_nodes kind e.0.0) d.2.0 ns) e.2.2.1
    ((or_none_in {os = of_nodes} nodes_meet (λ kind. refl)).meets e.0.0 d.2.0 e.2.0 e.2.1 within
    (record { last = refl; awaited = refl; calm = refl; plain = plain }) refl) in
    met_at d.2.1.1 (met_as (ap (of_nodes kind) (e.1 ∙ d.1)) (met_then
    (token_met σ d.0.0 d.2.0 ([], within) []
    (arguments_open σ role last d.0.0 d.2.0 (one_class d.0.0.class SymParenLeft d.2.1.0)) refl refl)
    (closed σ within (with_item σ.item σ) (of_nodes kind e.0.0) d.2.0 e.0.1 ys
    (arguments_close σ within e.0.1 ys close refl refl refl refl)
    (arguments_close σ (going_on within) e.0.1 ys close refl refl refl refl) met)))
