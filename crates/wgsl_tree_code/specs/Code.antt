-- Named values: what a tree is as nodes with named fields.
use Rattle.std.specs.Prelude.{ℕ, ℤ, pos, Bool, List, [], ◌∷◌, Option, None, Some, codes}
use Rattle.grammar.specs.Tokens.{Span}
use Rattle.wgsl_model.specs.Trees.Attributes.{Attributes}
use Rattle.wgsl_model.specs.Trees.Attributed.{Attributed}

mutual
  pub data Code : Type 0 where
    -- what is left out
    absent : Code
    -- true or false
    boolean : Bool → Code
    -- a whole number
    number : ℤ → Code
    -- the bytes of a text
    text : List ℕ → Code
    -- values one after another
    list : Codes → Code
    -- values by their names
    node : Fields → Code

  -- values one after another
  pub data Codes : Type 0 where
    no_codes : Codes
    code_before : Code → Codes → Codes

  -- values, each after its name
  pub data Fields : Type 0 where
    no_fields : Fields
    field : List ℕ → Code → Fields → Fields

-- the fields of a list of names and values
abbrev pub fields_of : List (List ℕ × Code) → Fields
fields_of [] = no_fields
fields_of (f ∷ fs) = field f.0 f.1 (fields_of fs)

-- a node with these fields
abbrev pub node_of : List (List ℕ × Code) → Code
node_of fields = node (fields_of fields)

-- a variant with what it holds
abbrev pub variant : List ℕ → Code → Code
variant name value = node_of ((name, value) ∷ [])

-- the codes of the items of a list
abbrev pub codes_of : {X : Type 0} → (X → Code) → List X → Codes
codes_of code [] = no_codes
codes_of code (x ∷ xs) = code_before (code x) (codes_of code xs)

-- a list
abbrev pub list_of : {X : Type 0} → (X → Code) → List X → Code
list_of code xs = list (codes_of code xs)

-- a value that may be left out
abbrev pub optional : {X : Type 0} → (X → Code) → Option X → Code
optional code None = absent
optional code (Some x) = code x

-- two values one after another
abbrev pub pair_of : Code → Code → Code
pair_of first second = list (code_before first (code_before second no_codes))

-- a number that is not negative
abbrev pub natural : ℕ → Code
natural n = number (pos n)

-- a node and where it is
abbrev pub placed : Span → Code → Code
placed span value = node_of (
    (codes "span", pair_of (natural span.start) (natural span.end)) ∷
    (codes "node", value) ∷
    [])

-- a node after its attributes
abbrev pub attributed_code : {Node : Type 0} → (Attributes → Node → Code) → Attributed Node → Code
attributed_code code a = code a.attributes a.node
