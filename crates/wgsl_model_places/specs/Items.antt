-- What is known of a text up to a token: the brackets that are open, and in each the item that the
-- token is in. An item is a directive, a declaration, a statement, a clause, a parameter or a
-- member; in other brackets it is all that is in them.
use Rattle.std.specs.Prelude.{Bool, true, false, List, [], Option, None, Some}
use Rattle.wgsl_model_names.specs.Scopes.{Branch}
use Rattle.wgsl_model_places.specs.Roles.{Declared, parameter, member, Role, uses, Name, Entry, entries}

-- what is in brackets, or in none
pub data Bracket : Type 0 where
  -- in none: a module
  outermost : Bracket
  -- in parentheses: the parameters of a function, the header of a `for`, the arguments of an
  -- attribute
  parameters header arguments : Bracket
  -- in braces: the members of a structure, the clauses of a `switch`, statements
  members clauses block : Bracket
  -- the statements of a function whose parameters are not in scope yet; the same, before the type
  -- that it returns; and statements with a scope around them that has started
  function_body result inner_body : Bracket
  -- in other parentheses, or in a template list
  others : Bracket

-- an item up to a token
pub record Item : Type 0 where
  -- what a name in it is, if nothing else is said
  pub role : Role
  -- more of it is there than attributes
  pub begun : Bool
  -- the condition under which it is there
  pub branch : Option Branch
  -- what the next name is that it declares, and the name that it declared
  pub awaited : Option Declared
  pub declared : Option Name
  -- what is in its next bracket
  pub next : Bracket

-- what the last token says of the next one
pub data Last : Type 0 where
  -- it is the name of an attribute; it may begin its arguments, in which names are this; it is a
  -- name after `.`
  at : Last
  attribute : Role → Last
  period : Last
  other : Last

-- a bracket and the item in it, of which a part is in a bracket
abbrev pub Around : Type 0
Around = Bracket × Item

-- what is known up to a token: the innermost bracket and its item, the others around it, the
-- innermost first, and the parameters of a function that are not in scope yet
pub record State : Type 0 where
  pub last : Last
  pub bracket : Bracket
  pub item : Item
  pub around : List Around
  pub waiting : List Entry

-- ---- items
-- nothing of an item is there
abbrev pub new_item : Role → Option Declared → Item
new_item role awaited = record {
  role = role;
  begun = false;
  branch = None;
  awaited = awaited;
  declared = None;
  next = block;
}

-- what the next name of an item in brackets declares
abbrev pub awaited_in : Bracket → Option Declared
awaited_in parameters = Some parameter
awaited_in members = Some member
awaited_in bracket = None

-- the first item in brackets
abbrev pub first_item : Bracket → Role → Item
first_item bracket role = new_item role (awaited_in bracket)

-- the next bracket, after more of an item: the name of a type after `->` is its last attribute's
-- end
abbrev pub next_after : Bracket → Bracket
next_after result = function_body
next_after bracket = bracket

-- an item after a token that is in no attribute
abbrev pub gone_on : Item → Item
gone_on item = record item { begun = true; next = next_after item.next }

-- what comes into scope at its end
abbrev pub entries_of : Item → List Entry
entries_of item = entries item.branch item.declared

-- before the first token
abbrev pub start : State
start = record { last = other; bracket = outermost; item = new_item uses None; around = []; waiting = [] }
