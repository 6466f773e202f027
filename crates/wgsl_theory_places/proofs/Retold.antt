-- Where names are edited, the same happens to the edited names.
use Rattle.std.proofs.Common.{◌≡◌, ℕ, Bool, true, false, List, [], ◌∷◌, ◌++◌, Option, None, Some, map, refl, sym, ap, ◌∙◌, cond, eqb, eqb-true, codes}
use Rattle.std.proofs.lemmas.List.{map-append}
use Rattle.std.specs.Option.{option_map}
use Rattle.grammar.specs.Tokens.{Token}
use Rattle.wgsl_model.specs.Tokens.Kind as kind
use Rattle.wgsl_model.specs.Tokens.ClassTable.{Ident, ReservedWord, SymUnderscore}
use Rattle.wgsl_model_names.specs.Scopes.{Branch}
use Rattle.wgsl_model_places.specs.Roles.{Role, declares, Name, Entry, Event, in_module, in_scope, scope_start, entries}
use Rattle.wgsl_model_places.specs.Items.{Bracket, outermost, parameters, header, members, clauses, block, function_body, inner_body, Item, Last, at, attribute, period, other, Around, State, entries_of, start}
use Rattle.wgsl_model_places.specs.Signs.{Sign, at_sign, period_sign, semicolon, comma, opening, list_opening, closing, block_start, block_end, heads, directive, no_statement, break_sign, none, sign_of, has_text, is_name, name_at, first_class}
use Rattle.wgsl_model_places.specs.Steps.{Step, then_by, next_is, waits, outside_of, outside, entered, ended, function_by, function_entered, after_name, role_of, at_name, after_attribute, at_attribute, opening_by, closing_by, block_by, at_block_start, scopes_ended, ended_unless, at_block_end, comma_by, at_break, at_sign_of, takes_name, name_by, at_token, events_from, events}
use Rattle.wgsl_model_places.specs.Edited.{Edit, new_name, edited_token, edited, edited_entry, edited_event, KeepsWords, KeepsUnderscore}

-- ---- classes
no_text : (class : ℕ) (a b c : Bool) → eqb class Ident ≡ a → eqb class ReservedWord ≡ b → eqb class SymUnderscore ≡ c
    → cond a true (cond b true false) ≡ false → cond a true (cond b true (cond c true false)) ≡ true
    → class ≡ SymUnderscore
no_text class true b c e h k f t = absurd (cc)
no_text class false true c e h k f t = absurd (cc)
no_text class false false true e h k f t = eqb-true class SymUnderscore k
no_text class false false false e h k f t = absurd (cc)

underscore_text : (t : Token) → t.class ≡ SymUnderscore → (name_at t).text ≡ codes "_"
underscore_text t e = rw e refl

module _ (g : Edit) where
  event_with : Event → Event
  event_with = edited_event g

  -- ---- what is known, with edited names
  abbrev item_with : Item → Item
  item_with item = record item { declared = option_map (new_name g) item.declared }

  abbrev around_with : Around → Around
  around_with a = (a.0, item_with a.1)

  abbrev state_with : State → State
  state_with σ = record σ {
    item = item_with σ.item;
    around = map around_with σ.around;
    waiting = map (edited_entry g) σ.waiting;
  }

  abbrev step_with : Step → Step
  step_with s = (map (edited_event g) s.0, state_with s.1)

  -- ---- entries
  entries_edited : (branch : Option Branch) (name : Option Name)
      → entries branch (option_map (new_name g) name) ≡ map (edited_entry g) (entries branch name)
  entries_edited None None = refl
  entries_edited None (Some name) = refl
  entries_edited (Some branch) None = refl
  entries_edited (Some branch) (Some name) = refl

  scope_edited : (es : List Entry) → map in_scope (map (edited_entry g) es) ≡ map (edited_event g) (map in_scope es)
  scope_edited [] = refl
  scope_edited (e ∷ es) = ap (λ (more : List Event). in_scope (edited_entry g e) ∷ more) (scope_edited es)

  module_edited : (es : List Entry) → map in_module (map (edited_entry g) es) ≡ map (edited_event g) (map in_module es)
  module_edited [] = refl
  module_edited (e ∷ es) = ap (λ (more : List Event). in_module (edited_entry g e) ∷ more) (module_edited es)

  entered_edited : (bracket : Bracket) (es : List Entry)
      → entered bracket (map (edited_entry g) es) ≡ map (edited_event g) (entered bracket es)
  entered_edited outermost es = module_edited es
  entered_edited bracket es = scope_edited es

  item_entries : (item : Item) → entries_of (item_with item) ≡ map (edited_entry g) (entries_of item)
  item_entries item = entries_edited item.branch item.declared

  waits_edited : (σ : State)
      → waits (entries_of (item_with σ.item)) (state_with σ) ≡ state_with (waits (entries_of σ.item) σ)
  waits_edited σ =
      ap (λ (es : List Entry). record (state_with σ) { waiting = map (edited_entry g) σ.waiting ++ es })
      (item_entries σ.item)
      ∙ ap (λ (es : List Entry). record (state_with σ) { waiting = es })
      (sym (map-append (edited_entry g) σ.waiting (entries_of σ.item)))

  -- ---- steps
  then_edited : (s : Step) (f : State → Step) → ((τ : State) → f (state_with τ) ≡ step_with (f τ))
      → then_by (step_with s) f ≡ step_with (then_by s f)
  then_edited s f same = ap (λ (r : Step). (map (edited_event g) s.0 ++ r.0, r.1)) (same s.1)
      ∙ ap (λ (es : List Event). (es, state_with (f s.1).1)) (sym (map-append (edited_event g) s.0 (f s.1).0))

  outside_edited : (around : List Around) (σ : State)
      → outside_of (map around_with around) (state_with σ) ≡ state_with (outside_of around σ)
  outside_edited [] σ = refl
  outside_edited (a ∷ around) σ = refl

  ended_edited : (σ : State) → ended (state_with σ) ≡ step_with (ended σ)
  ended_edited σ = ap (λ (es : List Event). (es, state_with (ended σ).1))
      (ap (entered σ.bracket) (item_entries σ.item) ∙ entered_edited σ.bracket (entries_of σ.item))

  function_edited : (next : Bracket) (σ : State) → function_by next (state_with σ) ≡ step_with (function_by next σ)
  function_edited function_body σ =
      ap (λ (es : List Event). (scope_start ∷ es, state_with (function_by function_body σ).1))
      (scope_edited σ.waiting)
  function_edited next σ = refl

  name_edited : (role : Role) (name : Name) (σ : State)
      → after_name role (new_name g name) (state_with σ) ≡ state_with (after_name role name σ)
  name_edited (declares declared) name σ = refl
  name_edited role name σ = refl

  any_name_edited : (name : Name) (σ : State) → at_name (new_name g name) (state_with σ) ≡ step_with (at_name name σ)
  any_name_edited name σ = ap (λ (τ : State). ((at_name (new_name g name) (state_with σ)).0, τ))
      (name_edited (role_of σ.last σ.item.awaited σ.item.role) name σ)

  attribute_edited : (name : Name) (σ : State) → g name ≡ name.text
      → at_attribute (new_name g name) (state_with σ) ≡ step_with (at_attribute name σ)
  attribute_edited name σ keeps = ap (λ (text : List ℕ).
      ((at_attribute (new_name g name) (state_with σ)).0, after_attribute text (state_with σ)))
      keeps

  opening_edited : (last : Last) (next : Bracket) (σ : State)
      → opening_by last next (state_with σ) ≡ step_with (opening_by last next σ)
  opening_edited (attribute role) next σ = refl
  opening_edited last parameters σ = refl
  opening_edited last header σ = refl
  opening_edited last next σ = refl

  closing_edited : (bracket : Bracket) (σ : State)
      → closing_by bracket (state_with σ) ≡ step_with (closing_by bracket σ)
  closing_edited parameters σ =
      ap (λ (τ : State). ([], next_is function_body (outside τ))) (waits_edited σ)
      ∙ ap (λ (τ : State). ([], next_is function_body τ)) (outside_edited σ.around (waits (entries_of σ.item) σ))
  closing_edited header σ = λ i. (
    (ap (map in_scope) (item_entries σ.item) ∙ scope_edited (entries_of σ.item)) i,
    next_is inner_body (outside_edited σ.around σ i),
  )
  closing_edited bracket σ = ap (λ (τ : State). ([], τ)) (outside_edited σ.around σ)

  block_edited : (next : Bracket) (σ : State) → block_by next (state_with σ) ≡ step_with (block_by next σ)
  block_edited members σ = refl
  block_edited clauses σ = refl
  block_edited inner_body σ = refl
  block_edited next σ = refl

  scopes_edited : (bracket : Bracket) → scopes_ended bracket ≡ map (edited_event g) (scopes_ended bracket)
  scopes_edited block = refl
  scopes_edited inner_body = refl
  scopes_edited bracket = refl

  unless_edited : (goes_on : Bool) (σ : State)
      → ended_unless goes_on (state_with σ) ≡ step_with (ended_unless goes_on σ)
  unless_edited true σ = refl
  unless_edited false σ = ended_edited σ

  block_end_edited : (goes_on : Bool) (σ : State)
      → at_block_end goes_on (state_with σ) ≡ step_with (at_block_end goes_on σ)
  block_end_edited goes_on σ =
      ap (λ (s : Step). then_by s (ended_unless goes_on))
      (λ i. (scopes_edited σ.bracket i, outside_edited σ.around σ i))
      ∙ then_edited (scopes_ended σ.bracket, outside σ) (ended_unless goes_on) (unless_edited goes_on)

  comma_edited : (bracket : Bracket) (σ : State) → comma_by bracket (state_with σ) ≡ step_with (comma_by bracket σ)
  comma_edited parameters σ =
      ap (λ (τ : State). ([], record τ { last = other; item = (comma_by parameters σ).1.item }))
      (waits_edited σ)
  comma_edited members σ = refl
  comma_edited bracket σ = refl

  break_edited : (before_if : Bool) (σ : State) → at_break before_if (state_with σ) ≡ step_with (at_break before_if σ)
  break_edited true σ = refl
  break_edited false σ = refl

  sign_edited : (sign : Sign) (next : Option ℕ) (σ : State)
      → at_sign_of sign next (state_with σ) ≡ step_with (at_sign_of sign next σ)
  sign_edited at_sign next σ =
      ap (λ (s : Step). then_by s (λ τ. ([], record τ { last = at }))) (function_edited σ.item.next σ)
      ∙ then_edited (function_entered σ) (λ τ. ([], record τ { last = at })) (λ τ. refl)
  sign_edited period_sign next σ = refl
  sign_edited semicolon next σ = ended_edited σ
  sign_edited comma next σ = comma_edited σ.bracket σ
  sign_edited opening next σ = opening_edited σ.last σ.item.next σ
  sign_edited list_opening next σ = refl
  sign_edited closing next σ = closing_edited σ.bracket σ
  sign_edited block_start next σ = ap (λ (s : Step). then_by s at_block_start) (function_edited σ.item.next σ)
      ∙ then_edited (function_entered σ) at_block_start (λ τ. block_edited τ.item.next τ)
  sign_edited block_end next σ = block_end_edited _ σ
  sign_edited (heads awaited bracket) next σ = refl
  sign_edited directive next σ = refl
  sign_edited no_statement next σ = refl
  sign_edited break_sign next σ = break_edited _ σ
  sign_edited none next σ = refl

  -- ---- tokens
  class_edited : (t : Token) (b : Bool)
      → (cond b (kind.placed (kind.named t.class (g (name_at t))) t.start t.end) t).class ≡ t.class
  class_edited t true = refl
  class_edited t false = refl

  same_class : (t : Token) → (edited_token g t).class ≡ t.class
  same_class t = class_edited t (has_text t.class)

  first_edited : (ts : List Token) → first_class (edited g ts) ≡ first_class ts
  first_edited [] = refl
  first_edited (t ∷ ts) = ap (λ (class : ℕ). Some class) (same_class t)

  -- the name of an edited token
  name_by_text : (t : Token) (b : Bool) → has_text t.class ≡ b → (b ≡ false → g (name_at t) ≡ (name_at t).text)
      → name_at (cond b (kind.placed (kind.named t.class (g (name_at t))) t.start t.end) t) ≡ new_name g (name_at t)
  name_by_text t true e keeps = rw e refl
  name_by_text t false e keeps = ap (λ (text : List ℕ). record (name_at t) { text = text }) (sym (keeps refl))

  name_of_edited : (t : Token) → (has_text t.class ≡ false → g (name_at t) ≡ (name_at t).text)
      → name_at (edited_token g t) ≡ new_name g (name_at t)
  name_of_edited t keeps = name_by_text t (has_text t.class) refl keeps

  -- a name without a text of its own is `_`
  keeps_untold : KeepsUnderscore g → (t : Token) → is_name t.class ≡ true → has_text t.class ≡ false
      → g (name_at t) ≡ (name_at t).text
  keeps_untold keeps t is_one untold = keeps (name_at t) (underscore_text t
      (no_text t.class (eqb t.class Ident) (eqb t.class ReservedWord)
      (eqb t.class SymUnderscore) refl refl refl untold is_one))

  -- at a name after anything but `@`, or at another token
  by_class : KeepsUnderscore g → (t : Token) (next : Option ℕ) (σ : State) (b : Bool) → is_name t.class ≡ b
      → cond b (at_name (name_at (edited_token g t)) (state_with σ)) (at_sign_of (sign_of t.class) next (state_with σ))
      ≡ step_with (cond b (at_name (name_at t) σ) (at_sign_of (sign_of t.class) next σ))
  by_class keeps t next σ true e =
      ap (λ (name : Name). at_name name (state_with σ)) (name_of_edited t (keeps_untold keeps t e))
      ∙ any_name_edited (name_at t) σ
  by_class keeps t next σ false e = sign_edited (sign_of t.class) next σ

  by_last : KeepsUnderscore g → (last : Last) (t : Token) (next : Option ℕ) (σ : State)
      → KeepsWords g (cond (takes_name last t.class) (name_by last (name_at t) σ)
      (at_sign_of (sign_of t.class) next σ)).0
      → cond (takes_name last t.class) (name_by last (name_at (edited_token g t)) (state_with σ))
      (at_sign_of (sign_of t.class) next (state_with σ))
      ≡ step_with (cond (takes_name last t.class) (name_by last (name_at t) σ) (at_sign_of (sign_of t.class) next σ))
  by_last keeps at t next σ words =
      ap (λ (name : Name). at_attribute name (state_with σ)) (name_of_edited t (λ untold. words.0))
      ∙ attribute_edited (name_at t) σ words.0
  by_last keeps (attribute role) t next σ words = by_class keeps t next σ (is_name t.class) refl
  by_last keeps period t next σ words = by_class keeps t next σ (is_name t.class) refl
  by_last keeps other t next σ words = by_class keeps t next σ (is_name t.class) refl

  token_edited : KeepsUnderscore g → (t : Token) (ts : List Token) (σ : State) → KeepsWords g (at_token t ts σ).0
      → at_token (edited_token g t) (edited g ts) (state_with σ) ≡ step_with (at_token t ts σ)
  token_edited keeps t ts σ words =
      ap (λ (class : ℕ). cond (takes_name σ.last class) (name_by σ.last (name_at (edited_token g t)) (state_with σ))
      (at_sign_of (sign_of class) (first_class (edited g ts)) (state_with σ))) (same_class t)
      ∙ ap (λ (next : Option ℕ). cond (takes_name σ.last t.class)
      (name_by σ.last (name_at (edited_token g t)) (state_with σ))
      (at_sign_of (sign_of t.class) next (state_with σ))) (first_edited ts)
      ∙ by_last keeps σ.last t (first_class ts) σ words

  -- ---- lists of tokens
  words_left : (es fs : List Event) → KeepsWords g (es ++ fs) → KeepsWords g es
  words_left [] fs words = tt
  words_left (e ∷ es) fs words = (words.0, words_left es fs words.1)

  words_right : (es fs : List Event) → KeepsWords g (es ++ fs) → KeepsWords g fs
  words_right [] fs words = words
  words_right (e ∷ es) fs words = words_right es fs words.1

  events_edited : KeepsUnderscore g → (ts : List Token) (σ : State) → KeepsWords g (events_from σ ts)
      → events_from (state_with σ) (edited g ts) ≡ map (edited_event g) (events_from σ ts)
  events_edited keeps [] σ words = refl
  events_edited keeps (t ∷ ts) σ words =
      let s = at_token t ts σ in
      ap (λ (r : Step). r.0 ++ events_from r.1 (edited g ts))
      (token_edited keeps t ts σ (words_left s.0 (events_from s.1 ts) words))
      ∙ ap (λ (es : List Event). map (edited_event g) s.0 ++ es)
      (events_edited keeps ts s.1 (words_right s.0 (events_from s.1 ts) words))
      ∙ sym (map-append (edited_event g) s.0 (events_from s.1 ts))

  pub edited_events : (ts : List Token) → KeepsUnderscore g → KeepsWords g (events ts)
      → events (edited g ts) ≡ map (edited_event g) (events ts)
  edited_events ts keeps words = events_edited keeps ts start words
