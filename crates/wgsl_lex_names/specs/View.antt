-- What was read as plain data.
use Rattle.std.specs.Prelude.{List, Option, map, reverse}
use Rattle.std.specs.Option.{option_map, option_to_list}
use Rattle.wgsl_model_names.specs.Scopes as scopes
use Rattle.wgsl_model_places.specs.Roles as roles
use Rattle.wgsl_model_places.specs.Items as items
use Rattle.wgsl_model_places.specs.Signs as signs
use Rattle.wgsl_lex_names.specs.declared.role.Declared.{Declared}
use Rattle.wgsl_lex_names.specs.declared.role.Declared.TheVariants as declared
use Rattle.wgsl_lex_names.specs.declared.role.Role.{Role}
use Rattle.wgsl_lex_names.specs.declared.role.Role.TheVariants as role
use Rattle.wgsl_lex_names.specs.declared.role.Name.{Name}
use Rattle.wgsl_lex_names.specs.declared.role.Branch.{Branch}
use Rattle.wgsl_lex_names.specs.declared.role.Branch.TheVariants as branch
use Rattle.wgsl_lex_names.specs.declared.role.Entry.{Entry}
use Rattle.wgsl_lex_names.specs.declared.role.Event.{Event}
use Rattle.wgsl_lex_names.specs.declared.role.Event.TheVariants as event
use Rattle.wgsl_lex_names.specs.declared.item.Bracket.{Bracket}
use Rattle.wgsl_lex_names.specs.declared.item.Bracket.TheVariants as bracket
use Rattle.wgsl_lex_names.specs.declared.item.Item.{Item}
use Rattle.wgsl_lex_names.specs.declared.sign.Sign.{Sign}
use Rattle.wgsl_lex_names.specs.declared.sign.Sign.TheVariants as sign
use Rattle.wgsl_lex_names.specs.declared.state.Last.{Last}
use Rattle.wgsl_lex_names.specs.declared.state.Last.TheVariants as last
use Rattle.wgsl_lex_names.specs.declared.state.State.{State}

abbrev pub declared_view : Declared → roles.Declared
declared_view declared.Function = roles.function
declared_view declared.Parameter = roles.parameter
declared_view declared.Structure = roles.structure
declared_view declared.Member = roles.member
declared_view declared.Alias = roles.alias
declared_view declared.Constant = roles.constant
declared_view declared.Override = roles.override
declared_view declared.Variable = roles.variable
declared_view declared.Let = roles.let_value

abbrev pub role_view : Role → roles.Role
role_view (role.Declares what) = roles.declares (declared_view what)
role_view role.Uses = roles.uses
role_view role.Unknown = roles.unknown
role_view role.Component = roles.component
role_view role.Word = roles.word

abbrev pub name_view : Name → roles.Name
name_view name = record { text = name.text.now; start = name.span.start; end = name.span.end }

abbrev pub branch_view : Branch → scopes.Branch
branch_view branch.If = scopes.under_if
branch_view branch.Elif = scopes.under_elif
branch_view branch.Else = scopes.under_else
branch_view branch.Several = scopes.under_several

abbrev pub entry_view : Entry → roles.Entry
entry_view entry = record { branch = option_map branch_view entry.branch; name = option_map name_view entry.name }

abbrev pub entries_view : Option Entry → List roles.Entry
entries_view entry = map entry_view (option_to_list entry)

abbrev pub event_view : Event → roles.Event
event_view (event.Named role name) = roles.named (role_view role) (name_view name)
event_view (event.InModule entry) = roles.in_module (entry_view entry)
event_view (event.InScope entry) = roles.in_scope (entry_view entry)
event_view event.ScopeStart = roles.scope_start
event_view event.ScopeEnd = roles.scope_end

abbrev pub bracket_view : Bracket → items.Bracket
bracket_view bracket.Outermost = items.outermost
bracket_view bracket.Parameters = items.parameters
bracket_view bracket.Header = items.header
bracket_view bracket.Arguments = items.arguments
bracket_view bracket.Members = items.members
bracket_view bracket.Clauses = items.clauses
bracket_view bracket.Block = items.block
bracket_view bracket.FunctionBody = items.function_body
bracket_view bracket.FunctionResult = items.result
bracket_view bracket.InnerBody = items.inner_body
bracket_view bracket.Others = items.others

abbrev pub item_view : Item → items.Item
item_view item = record {
  role = role_view item.role;
  begun = item.begun;
  branch = option_map branch_view item.branch;
  awaited = option_map declared_view item.awaited;
  declared = option_map name_view item.declared;
  next = bracket_view item.next;
}

abbrev pub sign_view : Sign → signs.Sign
sign_view sign.At = signs.at_sign
sign_view sign.Period = signs.period_sign
sign_view sign.Semicolon = signs.semicolon
sign_view sign.Comma = signs.comma
sign_view sign.Opening = signs.opening
sign_view sign.ListOpening = signs.list_opening
sign_view sign.Closing = signs.closing
sign_view sign.BlockStart = signs.block_start
sign_view sign.BlockEnd = signs.block_end
sign_view (sign.Heads awaited next) = signs.heads (option_map declared_view awaited) (bracket_view next)
sign_view sign.Directive = signs.directive
sign_view sign.NoStatement = signs.no_statement
sign_view sign.Break = signs.break_sign
sign_view sign.None = signs.none

abbrev pub last_view : Last → items.Last
last_view last.At = items.at
last_view (last.Attribute role) = items.attribute (role_view role)
last_view last.Period = items.period
last_view last.Other = items.other

abbrev pub around_view : Bracket × Item → items.Around
around_view around = (bracket_view around.0, item_view around.1)

abbrev pub state_view : State → items.State
state_view state = record {
  last = last_view state.last;
  bracket = bracket_view state.bracket;
  item = item_view state.item;
  around = map around_view (reverse state.around.items);
  waiting = map entry_view state.waiting.items;
}
