-- What is met at names, and in parentheses and template lists.
use Rattle.std.proofs.Common.{◌≡◌, ◌⊎◌, inl, inr, ℕ, Bool, true, false, eqb, eqb-true, List, [], ◌∷◌, ◌++◌, refl, sym, ap, subst, ◌∙◌, cond, append-nil}
use Rattle.std.specs.Prelude.{flat_map}
use Rattle.std.proofs.lemmas.Grind.{flat_map-append}
use Rattle.grammar.specs.Tokens.{Token}
use Rattle.grammar.specs.Grammar.{Grammar.empty, Grammar.symbol, Mode.checking, Chain, Chain.base, Chain.more, Means, is_among}
use Rattle.grammar.specs.Notation.{◌or◌, ◌gives◌, ◌▹◌, ◌◃◌, separated, list}
use Rattle.wgsl_model.specs.Tokens.ClassTable.{Ident, SymComma, SymParenLeft, SymParenRight, TemplateArgsStart, TemplateArgsEnd}
use Rattle.wgsl_model.specs.Grammar.TokenValues.{text_of}
use Rattle.wgsl_model.specs.Grammar.Symbols.{ident, Rule}
use Rattle.wgsl_model_minify.specs.Occurrences.{Occurrence, occurrences}
use Rattle.wgsl_model_places.specs.Roles.{Role, uses, unknown, component, word, Name, named}
use Rattle.wgsl_model_places.specs.Items.{Bracket, parameters, members, header, others, Last, other, Item, State, gone_on}
use Rattle.wgsl_model_places.specs.Signs.{Sign, comma, opening, list_opening, closing, sign_of, is_name, name_at, first_class}
use Rattle.wgsl_model_places.specs.Steps.{with_item, going_on, inside, after_name, at_list_opening, opening_by, comma_by, at_sign_of, at_token}
use Rattle.wgsl_model_places.specs.Places.{named_occurs}
use Rattle.wgsl_theory_places.proofs.Meets.Parts.{Met, nothing_met, met_then, met_as, met_to, met_from, met_at, token_met, Ready, ready_on, settled, kind_of, is_calm, is_plain, at_other_token}
use Rattle.wgsl_theory_places.proofs.Meets.Known.{Kind, Meeting, Known}
use Rattle.wgsl_theory_places.proofs.Meets.Ways.{Meets, gives_meets, each_of}

-- the only class of a list
pub one_class : (class c : ℕ) → is_among class (c ∷ []) ≡ true → class ≡ c
one_class class c h = go (eqb class c) refl h where
  go : (b : Bool) → eqb class c ≡ b → cond b true false ≡ true → class ≡ c
  go true e h = eqb-true class c e
  go false e h = absurd (cc)

-- at a token of a class with a sign
pub sign_token : (σ : State) → σ.last ≡ other → (t : Token) (ys : List Token) (c : ℕ) (s : Sign) → t.class ≡ c
    → is_name c ≡ false → sign_of c ≡ s → at_token t ys σ ≡ at_sign_of s (first_class ys) σ
sign_token σ last t ys c s class other_class sign =
    at_other_token σ t ys last (ap is_name class ∙ other_class)
    ∙ ap (λ (it : Sign). at_sign_of it (first_class ys) σ) (ap sign_of class ∙ sign)

-- ---- names
plain_name : (role : Role) → is_plain role ≡ true → (name : Name) (σ : State)
    → (after_name role name σ ≡ going_on σ) × (named_occurs role name ≡ occurrences (kind_of role name.text))
plain_name uses plain name σ = (refl, refl)
plain_name unknown plain name σ = (refl, refl)
plain_name word plain name σ = (refl, refl)
plain_name component plain name σ = absurd (cc)
plain_name (Role.declares declared) plain name σ = absurd (cc)

pub text_at : (t : Token) → t.class ≡ Ident → (name_at t).text ≡ text_of t
text_at t class = rw class refl

name_token : {σ : State} → Ready σ → (t : Token) (ys : List Token) → t.class ≡ Ident
    → at_token t ys σ ≡ (named σ.item.role (name_at t) ∷ [], after_name σ.item.role (name_at t) σ)
name_token {σ} ready t ys class = rw ready.last (rw class (rw ready.awaited refl))

pub name_met : {σ : State} → Ready σ → (t : Token) (ys : List Token) → t.class ≡ Ident
    → Met σ (going_on σ) (occurrences (kind_of σ.item.role (text_of t))) (t ∷ ys) ys
name_met {σ} ready t ys class =
    let role = σ.item.role in
    let it = plain_name role ready.plain (name_at t) σ in
    met_to it.0 (token_met σ t ys (named role (name_at t) ∷ [], after_name role (name_at t) σ) _
    (name_token ready t ys class)
    (append-nil (named_occurs role (name_at t)) ∙ it.1
    ∙ ap (λ (text : List ℕ). occurrences (kind_of role text)) (text_at t class)) refl)

abbrev pub of_name : Meeting Token
of_name kind t = occurrences (kind (text_of t))

pub name_meets : Meets (symbol ident) of_name
name_meets = record { meets = λ v xs ys d σ ready. met_at d.0 (name_met ready v ys d.1) }

-- ---- brackets
abbrev pub MetEither : State → List Occurrence → List Token → List Token → Type 0
MetEither σ os xs ys = Met σ σ os xs ys ⊎ Met σ (going_on σ) os xs ys

-- a `,` in brackets is in their item
abbrev pub is_apart : Bracket → Bool
is_apart parameters = false
is_apart members = false
is_apart bracket = true

pub record MeetsIn {A : Type 0} (g : Rule A) (os : Meeting A) : Type 0 where
  pub meets : (v : A) (xs ys : List Token) → Means checking Known g v xs ys
      → (σ : State) → Ready σ → is_apart σ.bracket ≡ true → MetEither σ (os (kind_of σ.item.role) v) xs ys

pub all_in : {A : Type 0} {g : Rule A} {os : Meeting A} → Meets g os → MeetsIn g os
all_in G = record { meets = λ v xs ys d σ ready apart. inr (G.meets v xs ys d σ ready) }

-- a part of one token at least there
pub record MeetsApart {A : Type 0} (g : Rule A) (os : Meeting A) : Type 0 where
  pub meets : (v : A) (xs ys : List Token) → Means checking Known g v xs ys
      → (σ : State) → Ready σ → is_apart σ.bracket ≡ true → Met σ (going_on σ) (os (kind_of σ.item.role) v) xs ys

pub list_in : {A : Type 0} {g : Rule A} {os : Meeting A} → MeetsApart g os → MeetsIn g os
list_in G = record { meets = λ v xs ys d σ ready apart. inr (G.meets v xs ys d σ ready apart) }

pub or_none_in : {A : Type 0} {g : Rule A} {a : A} {os : Meeting A} → MeetsApart g os → ((kind : Kind) → [] ≡ os kind a)
    → MeetsIn (g or empty a) os
or_none_in {A} {g} {a} {os} G same = record { meets = go } where
  go : (v : A) (xs ys : List Token) → Means checking Known (g or empty a) v xs ys
      → (σ : State) → Ready σ → is_apart σ.bracket ≡ true → MetEither σ (os (kind_of σ.item.role) v) xs ys
  go v xs ys (inl d) σ ready apart = inr (G.meets v xs ys d σ ready apart)
  go v xs ys (inr d) σ ready apart = inl (met_at d.1 (met_as
      (same (kind_of σ.item.role) ∙ ap (os (kind_of σ.item.role)) d.0) (nothing_met σ ys)))

-- ---- lists with commas
comma_goes_on : (bracket : Bracket) → is_apart bracket ≡ true → (σ : State) → comma_by bracket σ ≡ ([], going_on σ)
comma_goes_on parameters apart σ = absurd (cc)
comma_goes_on members apart σ = absurd (cc)
comma_goes_on bracket apart σ = refl

comma_met : (σ : State) → Ready σ → is_apart σ.bracket ≡ true → (t : Token) (ys : List Token) → t.class ≡ SymComma
    → Met σ (going_on σ) [] (t ∷ ys) ys
comma_met σ ready apart t ys class = token_met σ t ys ([], going_on σ) []
    (sign_token σ ready.last t ys SymComma comma class refl refl ∙ comma_goes_on σ.bracket apart σ) refl refl

one_more : {A : Type 0} (os : A → List Occurrence) (v : List A) (x : A)
    → flat_map os v ++ os x ≡ flat_map os (v ++ (x ∷ []))
one_more os v x = ap (λ (z : List Occurrence). flat_map os v ++ z) (sym (append-nil (os x)))
    ∙ sym (flat_map-append os v (x ∷ []))

separated_meets : {A : Type 0} {g : Rule A} {os : Meeting A} → Meets g os
    → MeetsApart (separated SymComma g) (each_of os)
separated_meets {A} {g} {os} G = record { meets = λ v xs ys d σ ready apart. go xs v ys d σ ready apart } where
  go : (xs : List Token) (v : List A) (ys : List Token)
      → Chain (λ (zs : List A) (x : A) s. zs ++ (x ∷ [])) (Means checking Known (g gives λ (x : A). x ∷ []))
      (Means checking Known (SymComma ▹ g)) xs v ys
      → (σ : State) → Ready σ → is_apart σ.bracket ≡ true
      → Met σ (going_on σ) (each_of os (kind_of σ.item.role) v) xs ys
  go xs _ _ (base a ys d) σ ready apart =
      (gives_meets {ps = each_of os} G (λ kind v. sym (append-nil (os kind v)))).meets a xs ys d σ ready
  go xs _ _ (more a b ys zs c d) σ ready apart =
      let kind = kind_of σ.item.role in
      let on = going_on σ in
      met_as (ap (λ (x : A). flat_map (os kind) a ++ os kind x) d.1 ∙ one_more (os kind) a b)
      (met_then (go xs a ys c σ ready apart) (met_to (settled σ) (met_at d.2.1.1 (met_then
      (comma_met on (ready_on ready) apart d.0.0 d.2.0 (one_class d.0.0.class SymComma d.2.1.0))
      (met_from (settled σ) (G.meets d.0.1 d.2.0 zs d.2.2 on (ready_on ready)))))))

pub list_meets : {A : Type 0} {g : Rule A} {os : Meeting A} → Meets g os → MeetsApart (list SymComma g) (each_of os)
list_meets {A} {g} {os} G = record { meets = go } where
  go : (v : List A) (xs ys : List Token) → Means checking Known (list SymComma g) v xs ys
      → (σ : State) → Ready σ → is_apart σ.bracket ≡ true
      → Met σ (going_on σ) (each_of os (kind_of σ.item.role) v) xs ys
  go v xs ys (inl d) σ ready apart = (separated_meets G).meets v xs ys d σ ready apart
  go v xs ys (inr d) σ ready apart =
      let kind = kind_of σ.item.role in
      met_as (append-nil (flat_map (os kind) d.0.0) ∙ ap (each_of os kind) d.1)
      (met_then ((separated_meets G).meets d.0.0 xs d.2.0 d.2.1 σ ready apart) (met_to (settled σ)
      (met_at d.2.2.1 (comma_met (going_on σ) (ready_on ready) apart d.0.1 ys
      (one_class d.0.1.class SymComma d.2.2.0)))))

-- the end of a bracket that started in an item
closed_met : (σ τ υ : State) (os : List Occurrence) (xs : List Token) (t : Token) (ys : List Token)
    → ((ρ : State) → ρ.last ≡ other → ρ.bracket ≡ τ.bracket → ρ.around ≡ τ.around → ρ.waiting ≡ τ.waiting
    → at_token t ys ρ ≡ ([], υ))
    → τ.last ≡ other → MetEither τ os xs (t ∷ ys) → Met τ υ os xs ys
closed_met σ τ υ os xs t ys closes last (inl m) = met_as (append-nil os)
    (met_then m (token_met τ t ys ([], υ) [] (closes τ last refl refl refl) refl refl))
closed_met σ τ υ os xs t ys closes last (inr m) = met_as (append-nil os)
    (met_then m (token_met (going_on τ) t ys ([], υ) [] (closes (going_on τ) refl refl refl refl) refl refl))

closing_token : (c : ℕ) → is_name c ≡ false → sign_of c ≡ closing
    → (σ τ : State) (item : Item) (t : Token) (ys : List Token)
    → t.class ≡ c → τ.last ≡ other → τ.bracket ≡ others → τ.around ≡ (σ.bracket, item) ∷ σ.around
    → τ.waiting ≡ σ.waiting
    → at_token t ys τ ≡ ([], with_item item σ)
closing_token c other_class sign σ τ item t ys class last bracket around waiting =
    sign_token τ last t ys c closing class other_class sign
    ∙ rw bracket (rw around (rw waiting refl))

calm_opening : (next : Bracket) → is_calm next ≡ true → (σ : State) → opening_by other next σ ≡ at_list_opening σ
calm_opening parameters calm σ = absurd (cc)
calm_opening header calm σ = absurd (cc)
calm_opening next calm σ = refl

paren_opens : {σ : State} → Ready σ → (t : Token) (ys : List Token) → t.class ≡ SymParenLeft
    → at_token t ys σ ≡ at_list_opening σ
paren_opens {σ} ready t ys class = sign_token σ ready.last t ys SymParenLeft opening class refl refl
    ∙ ap (λ (last : Last). opening_by last σ.item.next σ) ready.last
    ∙ calm_opening σ.item.next ready.calm σ

list_opens : {σ : State} → Ready σ → (t : Token) (ys : List Token) → t.class ≡ TemplateArgsStart
    → at_token t ys σ ≡ at_list_opening σ
list_opens {σ} ready t ys class = sign_token σ ready.last t ys TemplateArgsStart list_opening class refl refl

-- in a bracket in an item of which more is there then, names are as in the item
abbrev pub inner : State → State
inner σ = inside others σ.item.role (gone_on σ.item) σ

-- what a bracket opens and closes with
module _ (a b : ℕ) (opens : (σ : State) → Ready σ → (t : Token) (ys : List Token) → t.class ≡ a
    → at_token t ys σ ≡ at_list_opening σ)
    (end_class : is_name b ≡ false) (end_sign : sign_of b ≡ closing) where
  around_met : {os : List Occurrence} (σ : State) → Ready σ → (t u : Token) (ms ys : List Token)
      → t.class ≡ a → u.class ≡ b
      → MetEither (inner σ) os ms (u ∷ ys) → Met σ (going_on σ) os (t ∷ ms) ys
  around_met {os} σ ready t u ms ys begins ends m = met_then
      (token_met σ t ms (at_list_opening σ) [] (opens σ ready t ms begins) refl refl)
      (closed_met σ (inner σ) (going_on σ) os ms u ys (λ ρ last bracket around waiting.
      closing_token b end_class end_sign σ ρ (gone_on σ.item) u ys ends last bracket around waiting) refl m)

  pub in_brackets : {A : Type 0} {g : Rule A} {os : Meeting A} → MeetsIn g os → Meets (a ▹ g ◃ b) os
  in_brackets {A} {g} {os} G = record {
    meets = λ v xs ys d σ ready.
        let e = d.2.2 in
        let kind = kind_of σ.item.role in
        let within : MetEither (inner σ) (os kind e.0.0) d.2.0 (e.0.1 ∷ ys) =
        subst (λ (ns : List Token). MetEither (inner σ) (os kind e.0.0) d.2.0 ns) e.2.2.1
        (G.meets e.0.0 d.2.0 e.2.0 e.2.1 (inner σ)
        (record { last = refl; awaited = refl; calm = refl; plain = ready.plain }) refl) in
        met_at d.2.1.1 (met_as (ap (os kind) (e.1 ∙ d.1)) (around_met σ ready d.0.0 e.0.1 d.2.0 ys
        (one_class d.0.0.class a d.2.1.0) (one_class e.0.1.class b e.2.2.0) within));
  }

pub in_parentheses : {A : Type 0} {g : Rule A} {os : Meeting A} → MeetsIn g os
    → Meets (SymParenLeft ▹ g ◃ SymParenRight) os
in_parentheses G = in_brackets SymParenLeft SymParenRight
    (λ σ ready t ys class. paren_opens ready t ys class) refl refl G

pub in_list : {A : Type 0} {g : Rule A} {os : Meeting A} → MeetsIn g os
    → Meets (TemplateArgsStart ▹ g ◃ TemplateArgsEnd) os
in_list G = in_brackets TemplateArgsStart TemplateArgsEnd
    (λ σ ready t ys class. list_opens ready t ys class) refl refl G
