-- Where attributes begin.
use Rattle.std.proofs.Common.{◌≡◌, ℕ, zero, suc, List, [], ◌∷◌, ◌++◌, length, inl, inr, refl, sym, ap, ◌∙◌}
use Rattle.grammar.specs.Tokens as plain
use Rattle.grammar.specs.States.{State, Read, done, stop, ◌>>=◌, is_at, next_start, span_from, turns_in}
use Rattle.grammar.proofs.Reading.Sets.{cases}
use Rattle.grammar.proofs.Reading.Beginnings.{cond_yes, cond_no, pick_yes, pick_no}
use Rattle.wgsl_model.specs.Tokens.ClassTable.{SymAttr}
use Rattle.wgsl_model.specs.Faults.Kinds.{invalid_attribute}
use Rattle.wgsl_model.specs.Trees.Spanned.{Spanned}
use Rattle.wgsl_model.specs.Trees.Attributes.{Attribute, Attributes}
use Rattle.wgsl_model.specs.Grammar.TokenValues.{text_of}
use Rattle.wgsl_model.specs.Grammar.Checks.{Checked, right, wrong, Arguments}
use Rattle.wgsl_theory_grammar.specs.Factored.{FactoredSymbol.further, Further.attribute_list, begun_by}
use Rattle.wgsl_theory_grammar.specs.Reader.{reader}
use Rattle.wgsl_read_attribute.specs.Known.{checked_attribute}
use Rattle.wgsl_read_attribute.specs.Settles.{settled}
use Rattle.wgsl_read_attribute.specs.Rules.{attribute_parts_at, attribute_node_at, attributes_from, attributes_turn}
use Rattle.wgsl_read_attribute.proofs.Equations.{attribute_list_is, attributes_are, attribute_node_is}

-- a first attribute, and where it starts
abbrev StartsAt : ℕ → Attributes → Type 0
StartsAt start attributes = (b : Spanned Attribute) × (more : Attributes) × (attributes ≡ b ∷ more)
    × (b.span.start ≡ start)

-- one attribute more
abbrev grown : Attributes → Spanned Attribute → plain.Span → Attributes
grown xs x span = xs ++ (x ∷ [])

-- what holds wherever what comes after a reading is done
of_read : {A B : Type 0} (m : Read A) (f : A → State → Read B) (P : Type 0) (b : B) (s' : State)
    → ((a : A) (s : State) → f a s ≡ done b s' → P) → (m >>= f) ≡ done b s' → P
of_read (done a s) f P b s' h q = h a s q
of_read (stop e) f P b s' h q = absurd cc

-- what is read after some attributes begins with the first of them
turns_start : (k start first : ℕ) (xs : Attributes) (s : State) (a : Attributes) (s' : State)
    → StartsAt first xs → turns_in k grown (SymAttr ∷ []) attribute_node_at start xs s ≡ done a s'
    → StartsAt first a
turns_start zero start first xs s a s' (b, more, e, at) h = elim (cases (is_at SymAttr s)) [
  | inl y ↦ absurd (let q = sym (pick_yes {A = Read Attributes} (is_at SymAttr s) (stop _) (done xs s) y) ∙ h in cc)
  | inr n ↦ let q = sym (pick_no {A = Read Attributes} (is_at SymAttr s) (stop _) (done xs s) n) ∙ h in
      (b, more, (let same : xs ≡ a = cc in sym same ∙ e), at)
]
turns_start (suc k) start first xs s a s' (b, more, e, at) h =
    let turn : Spanned Attribute → State → Read Attributes =
    λ x s1. turns_in k grown (SymAttr ∷ []) attribute_node_at start (xs ++ (x ∷ [])) s1 in
    let further : (x : Spanned Attribute) (s1 : State) → turn x s1 ≡ done a s' → StartsAt first a =
    λ x s1. turns_start k start first (xs ++ (x ∷ [])) s1 a s'
    (b, more ++ (x ∷ []), ap (λ (z : Attributes). z ++ (x ∷ [])) e, at) in
    elim (cases (is_at SymAttr s)) [
      | inl y ↦ of_read (attribute_node_at s) turn (StartsAt first a) a s' further
          (sym (pick_yes {A = Read Attributes} (is_at SymAttr s) (attribute_node_at s >>= turn) (done xs s) y) ∙ h)
      | inr n ↦ let q = sym (pick_no {A = Read Attributes} (is_at SymAttr s) (attribute_node_at s
          >>= turn) (done xs s) n) ∙ h in (b, more, (let same : xs ≡ a = cc in sym same ∙ e), at)
    ]

-- an attribute starts where the next token does
settled_start : (checked : Checked Attribute) (fault : List ℕ → plain.Fault) (span : plain.Span)
    (s : State) (x : Spanned Attribute) (s' : State)
    → settled checked fault (λ (a : Attribute). record { node = a; span = span }) s ≡ done x s'
    → x.span.start ≡ span.start
settled_start (right c) fault span s x s' h = ap (λ (z : Spanned Attribute). z.span.start)
    (let same : record { node = c; span = span } ≡ x = cc in sym same)
settled_start (wrong text) fault span s x s' h = absurd cc

parts_start : (start : ℕ) (parts : Read (plain.Token × Arguments)) (x : Spanned Attribute) (s' : State)
    → (parts >>= λ p s. settled (checked_attribute (text_of p.0) p.1) (λ text. invalid_attribute (text_of p.0) text
    (span_from start s)) (λ (a : Attribute). record { node = a; span = span_from start s }) s) ≡ done x s'
    → x.span.start ≡ start
parts_start start (done p s) x s' h = settled_start (checked_attribute (text_of p.0) p.1)
    (λ text. invalid_attribute (text_of p.0) text (span_from start s)) (span_from start s) s x s' h
parts_start start (stop e) x s' h = absurd cc

node_start : (s : State) (x : Spanned Attribute) (s' : State) → attribute_node_at s ≡ done x s'
    → x.span.start ≡ next_start s
node_start s x s' h = parts_start (next_start s) (attribute_parts_at s) x s' (sym (attribute_node_is s) ∙ h)

-- the place of what is after attributes, from the first of them on, is one from where they
-- begin
first_begun : (s : State) (a : Attributes) (s' end : State)
    → attributes_turn (next_start s) [] s ≡ done a s'
    → begun_by a (span_from (next_start s') end) ≡ span_from (next_start s) end
unfolding attributes_turn attributes_from
first_begun s a s' end h = elim (cases (is_at SymAttr s)) [
  | inl y ↦ go_on (attribute_node_at s) refl
      (sym (cond_yes {A = Read Attributes} (is_at SymAttr s) (attribute_node_at s >>= turn) (done [] s) y) ∙ h)
  | inr n ↦
      let q = sym (cond_no {A = Read Attributes} (is_at SymAttr s) (attribute_node_at s >>= turn) (done [] s) n) ∙ h in
      let none : [] ≡ a = cc in
      let same : s ≡ s' = cc in
      sym (ap (λ (z : Attributes). begun_by z (span_from (next_start s') end)) none)
      ∙ sym (ap (λ (z : State). span_from (next_start z) end) same)
]
  where
    turn : Spanned Attribute → State → Read Attributes
    turn x s1 = attributes_from (next_start s) ([] ++ (x ∷ [])) s1

    begun_at : StartsAt (next_start s) a → begun_by a (span_from (next_start s') end) ≡ span_from (next_start s) end
    begun_at (b, more, e, at) = ap (λ (z : Attributes). begun_by z (span_from (next_start s') end)) e
        ∙ ap (λ (z : ℕ). record { start = z; end = end.end }) at

    go_on : (m : Read (Spanned Attribute)) → attribute_node_at s ≡ m → (m >>= turn) ≡ done a s'
        → begun_by a (span_from (next_start s') end) ≡ span_from (next_start s) end
    go_on (done x s1) e q = begun_at (turns_start (length s1.rest) (next_start s) (next_start s)
        (x ∷ []) s1 a s' (x, [], refl, node_start s x s1 e) q)
    go_on (stop x) e q = absurd cc

pub attributes_begun : (s : State) (a : Attributes) (s' end : State)
    → reader (further attribute_list) s ≡ done a s'
    → begun_by a (span_from (next_start s') end) ≡ span_from (next_start s) end
attributes_begun s a s' end h = first_begun s a s' end
    (sym (attribute_list_is s ∙ attributes_are (next_start s) [] s) ∙ h)
