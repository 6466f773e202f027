-- What is read back from a code.
use Rattle.std.proofs.Common.{refl, ap, ◌∙◌, sym, true≢false}
use Rattle.std.specs.Prelude.{ℕ, ℤ, pos, Bool, true, false, ◌&&◌, List, [], ◌∷◌, Option, None, Some, ◌≡◌, bytes_eq, if◌then◌else◌, codes}
use Rattle.grammar.specs.Tokens.{Span}
use Rattle.wgsl_model.specs.Trees.Expressions.{ExpressionNode, expression_node, TypeExpression, type_expression}
use Rattle.wgsl_model.specs.Trees.Attributed.{Attributed, with_attributes}
use Rattle.wgsl_tree_code.specs.ExpressionNodes.{expression_node_code, type_code}
use Rattle.wgsl_tree_code.specs.Code.{Code, absent, boolean, number, text, list, node, Codes, no_codes, code_before, Fields, no_fields, field, codes_of, list_of, optional, natural, pair_of}

-- what comes of a value that may be missing
abbrev pub then_of : {X Y : Type 0} → Option X → (X → Option Y) → Option Y
then_of None f = None
then_of (Some x) f = f x

-- a value, if these are the expected names
abbrev pub named : {X : Type 0} → List (List ℕ) → List (List ℕ) → Option X → Option X
named [] [] value = value
named (n ∷ ns) (m ∷ ms) value = if bytes_eq n m then named ns ms value else None
named [] (m ∷ ms) value = None
named (n ∷ ns) [] value = None

-- the value of a name in a table
abbrev pub chosen : {X : Type 0} → List ℕ → List (List ℕ × (Unit {0} → Option X)) → Option X
chosen name [] = None
chosen name (entry ∷ entries) = (if bytes_eq name entry.0 then entry.1 else (λ _. chosen name entries)) tt

abbrev pub text_of : Code → Option (List ℕ)
text_of (text bytes) = Some bytes
text_of c = None

abbrev pub boolean_of : Code → Option Bool
boolean_of (boolean b) = Some b
boolean_of c = None

abbrev pub number_of : Code → Option ℤ
number_of (number n) = Some n
number_of c = None

abbrev pub natural_of : Code → Option ℕ
natural_of (number (pos n)) = Some n
natural_of c = None

abbrev pub span_of : Code → Option Span
span_of (list (code_before (number (pos start)) (code_before (number (pos end)) no_codes))) =
    Some (record { start = start; end = end })
span_of c = None

module _ {X : Type 0} (of : Code → Option X) where
  abbrev pub items_of : Codes → Option (List X)
  items_of no_codes = Some []
  items_of (code_before c cs) = then_of (of c) (λ x. then_of (items_of cs) (λ xs. Some (x ∷ xs)))

  abbrev pub list_read_of : Code → Option (List X)
  list_read_of (list items) = items_of items
  list_read_of c = None

  abbrev pub optional_of : Code → Option (Option X)
  optional_of absent = Some None
  optional_of c = then_of (of c) (λ x. Some (Some x))

abbrev pub is_absent : Code → Bool
is_absent absent = true
is_absent c = false

-- what is there is read as such
pub present : {X : Type 0} (of : Code → Option X) (c : Code) → is_absent c ≡ false
    → optional_of of c ≡ then_of (of c) (λ x. Some (Some x))
present of absent e = absurd (true≢false e)
present of c e = refl

module _ {X : Type 0} (code : X → Code) (of : Code → Option X) (read : (x : X) → of (code x) ≡ Some x) where
  pub items_read : (xs : List X) → items_of of (codes_of code xs) ≡ Some xs
  items_read [] = refl
  items_read (x ∷ xs) = λ i. then_of (read x i) (λ y. then_of (items_read xs i) (λ ys. Some (y ∷ ys)))

  pub optional_read : ((x : X) → is_absent (code x) ≡ false) → (o : Option X)
      → optional_of of (optional code o) ≡ Some o
  optional_read there None = refl
  optional_read there (Some x) = present of (code x) (there x) ∙ (λ i. then_of (read x i) (λ y. Some (Some y)))

pub text_read : (bytes : List ℕ) → text_of (text bytes) ≡ Some bytes
text_read bytes = refl

pub boolean_read : (b : Bool) → boolean_of (boolean b) ≡ Some b
boolean_read b = refl

pub number_read : (n : ℤ) → number_of (number n) ≡ Some n
number_read n = refl

pub natural_read : (n : ℕ) → natural_of (natural n) ≡ Some n
natural_read n = refl

-- two values one after another
abbrev pub pair_of_codes : {X Y : Type 0} → (Code → Option X) → (Code → Option Y) → Code → Option (X × Y)
pair_of_codes first second (list (code_before c (code_before d no_codes))) = then_of (first c)
    (λ x. then_of (second d) (λ y. Some (x, y)))
pair_of_codes first second c = None

pub pair_read : {X Y : Type 0} (code : X → Code) (of : Code → Option X) (read : (x : X) → of (code x) ≡ Some x)
    (other : Y → Code) (other_of : Code → Option Y) (other_read : (y : Y) → other_of (other y) ≡ Some y)
    → (p : X × Y) → pair_of_codes of other_of (pair_of (code p.0) (other p.1)) ≡ Some p
pair_read code of read other other_of other_read p =
    λ i. then_of (read p.0 i) (λ x. then_of (other_read p.1 i) (λ y. Some (x, y)))

-- another node after the same attributes
abbrev pub led : {Node Other : Type 0} → (Node → Other) → Attributed Node → Attributed Other
led made a = with_attributes a.attributes (made a.node)

pub expression_node_there : (x : ExpressionNode) → is_absent (expression_node_code x) ≡ false
expression_node_there (expression_node e span) = refl

pub type_expression_there : (x : TypeExpression) → is_absent (type_code x) ≡ false
type_expression_there (type_expression name arguments) = refl
