-- From token to token: what each says of names.
use Rattle.std.specs.Prelude.{ℕ, Bool, true, false, if◌then◌else◌, List, [], ◌∷◌, ◌++◌, Option, None, Some, map}
use Rattle.grammar.specs.Tokens.{Token}
use Rattle.wgsl_model.specs.Tokens.ClassTable.{KwElse, KwIf}
use Rattle.wgsl_model_names.specs.Scopes.{Branch, under_several}
use Rattle.wgsl_model_places.specs.Roles.{Declared, Role, declares, uses, component, word, Name, Entry, Event, named, in_module, in_scope, scope_start, scope_end}
use Rattle.wgsl_model_places.specs.Items.{Bracket, outermost, parameters, header, arguments, members, clauses, block, function_body, inner_body, others, Item, Last, at, attribute, period, other, Around, State, first_item, gone_on, entries_of, start}
use Rattle.wgsl_model_places.specs.Signs.{Sign, at_sign, period_sign, semicolon, comma, opening, list_opening, closing, block_start, block_end, heads, directive, no_statement, break_sign, none, sign_of, is_name, name_at, first_class, is_class, argument_role, branch_named}

-- what happens, and what is known then
abbrev pub Step : Type 0
Step = List Event × State

-- one step after another
abbrev pub then_by : Step → (State → Step) → Step
then_by first second = (first.0 ++ (second first.1).0, (second first.1).1)

-- ---- what is known
-- the item is so, and nothing is said of the next token
abbrev pub with_item : Item → State → State
with_item item σ = record σ { last = other; item = item }

-- more of the item is there
abbrev pub going_on : State → State
going_on σ = with_item (gone_on σ.item) σ

-- what is in the next bracket of the item
abbrev pub next_is : Bracket → State → State
next_is next σ = record σ { item = record σ.item { next = next } }

-- a bracket starts, of which the item is so
abbrev pub inside : Bracket → Role → Item → State → State
inside bracket role item σ = record σ {
  last = other;
  bracket = bracket;
  item = first_item bracket role;
  around = (σ.bracket, item) ∷ σ.around;
}

-- the bracket ends, and the item that it is in goes on
abbrev pub outside_of : List Around → State → State
outside_of [] σ = with_item σ.item σ
outside_of (outer ∷ around) σ = record σ { last = other; bracket = outer.0; item = outer.1; around = around }

abbrev pub outside : State → State
outside σ = outside_of σ.around σ

-- parameters are in scope later
abbrev pub waits : List Entry → State → State
waits es σ = record σ { waiting = σ.waiting ++ es }

-- ---- what comes into scope
-- at the end of an item in brackets
abbrev pub entered : Bracket → List Entry → List Event
entered outermost es = map in_module es
entered bracket es = map in_scope es

-- an item ends, and the next one begins
abbrev pub ended : State → Step
ended σ = (entered σ.bracket (entries_of σ.item), with_item (first_item σ.bracket uses) σ)

-- the scope of a function has started, with its parameters
abbrev pub in_function : State → State
in_function σ = record (next_is inner_body σ) { waiting = [] }

-- if its body is next, it starts
abbrev pub function_by : Bracket → State → Step
function_by function_body σ = (scope_start ∷ map in_scope σ.waiting, in_function σ)
function_by next σ = ([], σ)

abbrev pub function_entered : State → Step
function_entered σ = function_by σ.item.next σ

-- ---- names
-- what a name is: after `.`, where a declared name is awaited, or else in such an item
abbrev pub role_of : Last → Option Declared → Role → Role
role_of period awaited word = word
role_of period awaited role = component
role_of last (Some declared) role = declares declared
role_of last None role = role

-- the item after a name that is so
abbrev pub item_after : Role → Name → Item → Item
item_after (declares declared) name item = record item { awaited = None; declared = Some name }
item_after role name item = item

abbrev pub after_name : Role → Name → State → State
after_name role name σ = with_item (item_after role name (gone_on σ.item)) σ

abbrev pub at_name : Name → State → Step
at_name name σ =
    let role = role_of σ.last σ.item.awaited σ.item.role in (named role name ∷ [], after_name role name σ)

-- the condition after one more, which counts before more than attributes are there
abbrev pub branch_after : Bool → Option Branch → Option Branch → Option Branch
branch_after true before one = before
branch_after false before None = before
branch_after false None one = one
branch_after false (Some before) (Some one) = Some under_several

-- after the name of an attribute
abbrev pub after_attribute : List ℕ → State → State
after_attribute name σ = record σ {
  last = attribute (argument_role name);
  item = record σ.item { branch = branch_after σ.item.begun σ.item.branch (branch_named name) };
}

abbrev pub at_attribute : Name → State → Step
at_attribute name σ = (named word name ∷ [], after_attribute name.text σ)

-- ---- brackets
-- at the start of a template list, and at a `(` that is like it
abbrev pub at_list_opening : State → Step
at_list_opening σ = ([], inside others σ.item.role (gone_on σ.item) σ)

-- at `(`, by the last token and by what is in the next bracket of the item
abbrev pub opening_by : Last → Bracket → State → Step
opening_by (attribute role) next σ = ([], inside arguments role σ.item σ)
opening_by last parameters σ = ([], inside parameters uses (gone_on σ.item) σ)
opening_by last header σ = (scope_start ∷ [], inside header uses (gone_on σ.item) σ)
opening_by last next σ = at_list_opening σ

abbrev pub at_opening : State → Step
at_opening σ = opening_by σ.last σ.item.next σ

-- at `)` and at the end of a template list, by what it ends
abbrev pub closing_by : Bracket → State → Step
closing_by parameters σ = ([], next_is function_body (outside (waits (entries_of σ.item) σ)))
closing_by header σ = (map in_scope (entries_of σ.item), next_is inner_body (outside σ))
closing_by bracket σ = ([], outside σ)

abbrev pub at_closing : State → Step
at_closing σ = closing_by σ.bracket σ

-- in braces, after which the item goes on with a block
abbrev pub in_braces : Bracket → State → Step
in_braces bracket σ = ([], inside bracket uses (record (gone_on σ.item) { next = block }) σ)

-- at `{`, by what is in it
abbrev pub block_by : Bracket → State → Step
block_by members σ = in_braces members σ
block_by clauses σ = in_braces clauses σ
block_by inner_body σ = then_by (scope_start ∷ [], σ) (in_braces inner_body)
block_by next σ = then_by (scope_start ∷ [], σ) (in_braces block)

abbrev pub at_block_start : State → Step
at_block_start σ = block_by σ.item.next σ

-- the scopes that end with a bracket
abbrev pub scopes_ended : Bracket → List Event
scopes_ended block = scope_end ∷ []
scopes_ended inner_body = scope_end ∷ (scope_end ∷ [])
scopes_ended bracket = []

-- the item ends, if it does not go on
abbrev pub ended_unless : Bool → State → Step
ended_unless true σ = ([], σ)
ended_unless false σ = ended σ

-- at `}`, where the item goes on or not
abbrev pub at_block_end : Bool → State → Step
at_block_end goes_on σ = then_by (scopes_ended σ.bracket, outside σ) (ended_unless goes_on)

-- ---- other tokens
-- a `,` is between parameters, between members, or in an item
abbrev pub comma_by : Bracket → State → Step
comma_by parameters σ = ([], with_item (first_item parameters uses) (waits (entries_of σ.item) σ))
comma_by members σ = ([], with_item (first_item members uses) σ)
comma_by bracket σ = ([], going_on σ)

abbrev pub at_comma : State → Step
at_comma σ = comma_by σ.bracket σ

-- the item is no statement, so it is no alternative; names in it are so
abbrev pub at_no_statement : Role → State → Step
at_no_statement role σ = ([], with_item (record (gone_on σ.item) { role = role; branch = None }) σ)

-- the next name is what the item declares, and this is in its next bracket
abbrev pub at_head : Option Declared → Bracket → State → Step
at_head awaited bracket σ = ([], with_item (record (gone_on σ.item) { awaited = awaited; next = bracket }) σ)

-- `break`, before `if` or not
abbrev pub at_break : Bool → State → Step
at_break true σ = at_no_statement σ.item.role σ
at_break false σ = ([], going_on σ)

-- at a token that is no name, by its sign, where a token of this class is next
abbrev pub at_sign_of : Sign → Option ℕ → State → Step
at_sign_of at_sign next σ = then_by (function_entered σ) (λ τ. ([], record τ { last = at }))
at_sign_of period_sign next σ = ([], record (going_on σ) { last = period })
at_sign_of semicolon next σ = ended σ
at_sign_of comma next σ = at_comma σ
at_sign_of opening next σ = at_opening σ
at_sign_of list_opening next σ = at_list_opening σ
at_sign_of closing next σ = at_closing σ
at_sign_of block_start next σ = then_by (function_entered σ) at_block_start
at_sign_of block_end next σ = at_block_end (is_class KwElse next) σ
at_sign_of (heads awaited bracket) next σ = at_head awaited bracket σ
at_sign_of directive next σ = at_no_statement word σ
at_sign_of no_statement next σ = at_no_statement σ.item.role σ
at_sign_of break_sign next σ = at_break (is_class KwIf next) σ
at_sign_of none next σ = ([], going_on σ)

-- whether a token of a class is a name, or the name of an attribute, by what the last one says
abbrev pub takes_name : Last → ℕ → Bool
takes_name at class = true
takes_name last class = is_name class

abbrev pub name_by : Last → Name → State → Step
name_by at name σ = at_attribute name σ
name_by last name σ = at_name name σ

abbrev pub at_any_name : Name → State → Step
at_any_name name σ = name_by σ.last name σ

-- at the first of some tokens
abbrev pub at_token : Token → List Token → State → Step
at_token t ts σ = if takes_name σ.last t.class then at_any_name (name_at t) σ
    else at_sign_of (sign_of t.class) (first_class ts) σ

-- what happens at the tokens of a list
abbrev pub events_from : State → List Token → List Event
events_from σ [] = []
events_from σ (t ∷ ts) = (at_token t ts σ).0 ++ events_from (at_token t ts σ).1 ts

abbrev pub events : List Token → List Event
events = events_from start
