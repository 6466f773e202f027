-- What happens at the tokens of a part, with what is known before it and after it.
use Rattle.std.proofs.Common.{◌≡◌, ℕ, Bool, true, false, not, ◌&&◌, List, [], ◌∷◌, ◌++◌, None, refl, sym, ap, ap₂, subst, ◌∙◌, append_assoc}
use Rattle.std.specs.Prelude.{flat_map}
use Rattle.std.proofs.lemmas.Grind.{flat_map-append}
use Rattle.grammar.specs.Tokens.{Token}
use Rattle.grammar.proofs.Reading.Sets.{and_true}
use Rattle.wgsl_model_names.specs.Scopes as scopes
use Rattle.wgsl_model_names.specs.Scopes.{Names}
use Rattle.wgsl_model_minify.specs.Occurrences.{Occurrence}
use Rattle.wgsl_model_places.specs.Roles.{Role, uses, unknown, word, Event}
use Rattle.wgsl_model_places.specs.Items.{Bracket, parameters, header, result, other, State, next_after, gone_on}
use Rattle.wgsl_model_places.specs.Signs.{Sign, none, sign_of, is_name, first_class}
use Rattle.wgsl_model_places.specs.Steps.{Step, going_on, at_token, at_sign_of, events_from}
use Rattle.wgsl_model_places.specs.Places.{module_occurs, inner_occurs}

-- from one state to another these occurrences are met
pub record Met (σ τ : State) (os : List Occurrence) (xs ys : List Token) : Type 0 where
  pub events : List Event
  pub from : events_from σ xs ≡ events ++ events_from τ ys
  pub inner : flat_map inner_occurs events ≡ os
  pub none_of_module : flat_map module_occurs events ≡ []

pub nothing_met : (σ : State) (xs : List Token) → Met σ σ [] xs xs
nothing_met σ xs = record { events = []; from = refl; inner = refl; none_of_module = refl }

pub met_then : {σ τ υ : State} {os ps : List Occurrence} {xs ys zs : List Token}
    → Met σ τ os xs ys → Met τ υ ps ys zs → Met σ υ (os ++ ps) xs zs
met_then {υ = υ} {zs = zs} a b = record {
  events = a.events ++ b.events;
  from = a.from ∙ ap (λ (es : List Event). a.events ++ es) b.from
      ∙ sym (append_assoc a.events b.events (events_from υ zs));
  inner = flat_map-append inner_occurs a.events b.events ∙ ap₂ (λ (x y : List Occurrence). x ++ y) a.inner b.inner;
  none_of_module = flat_map-append module_occurs a.events b.events
      ∙ ap₂ (λ (x y : List Occurrence). x ++ y) a.none_of_module b.none_of_module;
}

-- the same by other names
pub met_as : {σ τ : State} {os ps : List Occurrence} {xs ys : List Token} → os ≡ ps
    → Met σ τ os xs ys → Met σ τ ps xs ys
met_as {σ} {τ} {xs = xs} {ys = ys} e a = subst (λ (os : List Occurrence). Met σ τ os xs ys) e a

pub met_to : {σ τ υ : State} {os : List Occurrence} {xs ys : List Token} → τ ≡ υ → Met σ τ os xs ys → Met σ υ os xs ys
met_to {σ} {os = os} {xs = xs} {ys = ys} e a = subst (λ (τ : State). Met σ τ os xs ys) e a

pub met_from : {σ τ υ : State} {os : List Occurrence} {xs ys : List Token} → σ ≡ τ → Met τ υ os xs ys → Met σ υ os xs ys
met_from {υ = υ} {os = os} {xs = xs} {ys = ys} e a = subst (λ (σ : State). Met σ υ os xs ys) (sym e) a

pub met_at : {σ τ : State} {os : List Occurrence} {xs ys ts : List Token} → ts ≡ xs
    → Met σ τ os xs ys → Met σ τ os ts ys
met_at {σ} {τ} {os} {ys = ys} e a = subst (λ (xs : List Token). Met σ τ os xs ys) (sym e) a

-- at one token
pub token_met : (σ : State) (t : Token) (ys : List Token) (s : Step) (os : List Occurrence) → at_token t ys σ ≡ s
    → flat_map inner_occurs s.0 ≡ os → flat_map module_occurs s.0 ≡ [] → Met σ s.1 os (t ∷ ys) ys
token_met σ t ys s os e inner no_module = record {
  events = s.0;
  from = ap (λ (r : Step). r.0 ++ events_from r.1 ys) e;
  inner = inner;
  none_of_module = no_module;
}

-- ---- states in which an expression is met
abbrev pub is_calm : Bracket → Bool
is_calm parameters = false
is_calm header = false
is_calm next = true

-- what a name of a role occurs as, in expressions
abbrev pub kind_of : Role → List ℕ → Names
kind_of uses = scopes.used
kind_of unknown = scopes.unknown
kind_of role = λ x. scopes.nothing

abbrev pub is_plain : Role → Bool
is_plain uses = true
is_plain unknown = true
is_plain word = true
is_plain role = false

pub record Ready (σ : State) : Type 0 where
  pub last : σ.last ≡ other
  pub awaited : σ.item.awaited ≡ None
  pub calm : is_calm σ.item.next ≡ true
  pub plain : is_plain σ.item.role ≡ true

still_calm : (next : Bracket) → is_calm next ≡ true → is_calm (next_after next) ≡ true
still_calm result calm = refl
still_calm next calm = calm

next_settled : (next : Bracket) → next_after (next_after next) ≡ next_after next
next_settled result = refl
next_settled next = refl

pub settled : (σ : State) → going_on (going_on σ) ≡ going_on σ
settled σ = ap (λ (next : Bracket). record (going_on σ) { item = record (gone_on σ.item) { next = next } })
    (next_settled σ.item.next)

pub ready_on : {σ : State} → Ready σ → Ready (going_on σ)
ready_on {σ} r = record { last = refl; awaited = r.awaited; calm = still_calm σ.item.next r.calm; plain = r.plain }

-- ---- tokens in expressions
abbrev pub says_nothing : Sign → Bool
says_nothing none = true
says_nothing sign = false

abbrev pub is_quiet : ℕ → Bool
is_quiet class = not (is_name class) && says_nothing (sign_of class)

no_sign : (sign : Sign) → says_nothing sign ≡ true → sign ≡ none
no_sign none e = refl
no_sign sign e = absurd (cc)

not_true : (b : Bool) → not b ≡ true → b ≡ false
not_true true e = absurd (cc)
not_true false e = refl

pub quiet_is : (class : ℕ) → is_quiet class ≡ true → (is_name class ≡ false) × (sign_of class ≡ none)
quiet_is class e =
    let both = and_true (not (is_name class)) (says_nothing (sign_of class)) e in
    (not_true (is_name class) both.0, no_sign (sign_of class) both.1)

-- at a token that is no name, by its sign
pub at_other_token : (σ : State) (t : Token) (ys : List Token) → σ.last ≡ other → is_name t.class ≡ false
    → at_token t ys σ ≡ at_sign_of (sign_of t.class) (first_class ys) σ
at_other_token σ t ys last other_class = rw last (rw other_class refl)

pub quiet_met : {σ : State} → Ready σ → (t : Token) (ys : List Token) → is_quiet t.class ≡ true
    → Met σ (going_on σ) [] (t ∷ ys) ys
quiet_met {σ} ready t ys quiet =
    let it = quiet_is t.class quiet in
    token_met σ t ys ([], going_on σ) [] (at_other_token σ t ys ready.last it.0
    ∙ ap (λ (sign : Sign). at_sign_of sign (first_class ys) σ) it.1) refl refl
