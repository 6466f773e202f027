-- Written by tools/tables/packed_rules.py from crates/wgsl_model_packed/rules: the rules.
use Rattle.std.specs.Prelude.{ℕ, List, [], ◌∷◌, codes}

-- `false`
abbrev pub false_rule : ℕ
false_rule = 0

-- `true`
abbrev pub true_rule : ℕ
true_rule = 1

-- a whole number without a suffix, in decimal
abbrev pub int_rule : ℕ
int_rule = 2

-- a whole number with the suffix `i`
abbrev pub i32_rule : ℕ
i32_rule = 3

-- a whole number with the suffix `u`
abbrev pub u32_rule : ℕ
u32_rule = 4

-- a float without a suffix, by its spelling
abbrev pub float_rule : ℕ
float_rule = 5

-- a float with the suffix `f`
abbrev pub f32_rule : ℕ
f32_rule = 6

-- a float with the suffix `h`
abbrev pub f16_rule : ℕ
f16_rule = 7

-- an expression in parentheses
abbrev pub parenthesized_rule : ℕ
parenthesized_rule = 8

-- an operator and its operand
abbrev pub unary_rule : ℕ
unary_rule = 9

-- the same if both would be read as one operator without the space
abbrev pub unary_apart_rule : ℕ
unary_apart_rule = 10

-- a call
abbrev pub call_rule : ℕ
call_rule = 11

-- a type or identifier without a template, the last of some names, or a keyword
abbrev pub name_rule : ℕ
name_rule = 12

-- a type or identifier with a template
abbrev pub template_rule : ℕ
template_rule = 13

-- what is leftmost in a component, an element or an operation, and what follows it
abbrev pub chain_rule : ℕ
chain_rule = 14

-- a component of what is before it, which has the span
abbrev pub component_rule : ℕ
component_rule = 15

-- the same after a whole number without a suffix
abbrev pub component_of_int_rule : ℕ
component_of_int_rule = 16

-- an element of what is before it
abbrev pub index_rule : ℕ
index_rule = 17

-- an operator after what is before it, and a right operand
abbrev pub binary_rule : ℕ
binary_rule = 18

-- what is left out, or the end of a list
abbrev pub nothing_rule : ℕ
nothing_rule = 19

-- an expression before others
abbrev pub nodes_rule : ℕ
nodes_rule = 20

-- the last of some expressions, or an expression that may be left out
abbrev pub node_rule : ℕ
node_rule = 21

-- a part before others
abbrev pub parts_rule : ℕ
parts_rule = 22

-- the last of some parts
abbrev pub part_rule : ℕ
part_rule = 23

-- a type of `@type` before others
abbrev pub types_rule : ℕ
types_rule = 24

-- a name before others
abbrev pub names_rule : ℕ
names_rule = 25

-- an attribute before others
abbrev pub attributes_rule : ℕ
attributes_rule = 26

-- the last attribute before a line break
abbrev pub attributes_line_rule : ℕ
attributes_line_rule = 27

-- the last attribute before a space
abbrev pub attributes_space_rule : ℕ
attributes_space_rule = 28

-- an attribute with an expression, by its name
abbrev pub with_argument_rule : ℕ
with_argument_rule = 29

-- an attribute that is a name
abbrev pub without_argument_rule : ℕ
without_argument_rule = 30

-- a built-in value
abbrev pub builtin_rule : ℕ
builtin_rule = 31

-- a severity and the name of a rule
abbrev pub diagnostic_rule : ℕ
diagnostic_rule = 32

-- how a value is interpolated
abbrev pub interpolate_rule : ℕ
interpolate_rule = 33

-- a word that may be left out, after another
abbrev pub further_word_rule : ℕ
further_word_rule = 34

-- the sizes of a workgroup
abbrev pub workgroup_size_rule : ℕ
workgroup_size_rule = 35

-- an expression that may be left out, after another
abbrev pub further_node_rule : ℕ
further_node_rule = 36

-- a name and types
abbrev pub type_attribute_rule : ℕ
type_attribute_rule = 37

-- a name, and the types that it may be
abbrev pub type_constraint_rule : ℕ
type_constraint_rule = 38

-- an attribute of another name
abbrev pub custom_rule : ℕ
custom_rule = 39

-- its arguments
abbrev pub arguments_rule : ℕ
arguments_rule = 40

-- a `var` with its template
abbrev pub var_rule : ℕ
var_rule = 41

-- an address space, and an access mode
abbrev pub var_template_rule : ℕ
var_template_rule = 42

-- the declaration of a value, without its `;`
abbrev pub declaration_rule : ℕ
declaration_rule = 43

-- its type
abbrev pub typed_rule : ℕ
typed_rule = 44

-- its first value
abbrev pub initializer_rule : ℕ
initializer_rule = 45

-- an assignment, without its `;`, as further statements up to `const_assert`
abbrev pub assignment_rule : ℕ
assignment_rule = 46

-- an increment
abbrev pub increment_rule : ℕ
increment_rule = 47

-- a decrement
abbrev pub decrement_rule : ℕ
decrement_rule = 48

-- `break`
abbrev pub break_rule : ℕ
break_rule = 49

-- `continue`
abbrev pub continue_rule : ℕ
continue_rule = 50

-- `discard`
abbrev pub discard_rule : ℕ
discard_rule = 51

-- `return`
abbrev pub return_rule : ℕ
return_rule = 52

-- the value that is returned
abbrev pub returned_rule : ℕ
returned_rule = 53

-- a call alone
abbrev pub call_statement_rule : ℕ
call_statement_rule = 54

-- `const_assert`
abbrev pub const_assert_rule : ℕ
const_assert_rule = 55

-- `break if`
abbrev pub break_if_rule : ℕ
break_if_rule = 56

-- the selector `default`
abbrev pub default_rule : ℕ
default_rule = 57

-- an empty statement or declaration by itself, of which attributes are printed
abbrev pub void_rule : ℕ
void_rule = 58

-- a statement or a declaration with the `;` that ends it
abbrev pub ended_rule : ℕ
ended_rule = 59

-- the attributes of a block, and what is in it
abbrev pub block_rule : ℕ
block_rule = 60

-- an empty statement or declaration, before others
abbrev pub void_item_rule : ℕ
void_item_rule = 61

-- a statement in a block, before others
abbrev pub item_rule : ℕ
item_rule = 62

-- the end of a block that has a statement other than `;`, or of clauses
abbrev pub block_end_rule : ℕ
block_end_rule = 63

-- the end of another, or of no members
abbrev pub empty_end_rule : ℕ
empty_end_rule = 64

-- the end of the statements in a `loop` or `continuing`
abbrev pub opened_end_rule : ℕ
opened_end_rule = 65

-- the same if there are none but `;`
abbrev pub empty_opened_end_rule : ℕ
empty_opened_end_rule = 66

-- an `if` with what follows it
abbrev pub if_rule : ℕ
if_rule = 67

-- its first condition and block
abbrev pub if_clause_rule : ℕ
if_clause_rule = 68

-- an `else if`
abbrev pub else_if_rule : ℕ
else_if_rule = 69

-- an `else`
abbrev pub else_rule : ℕ
else_rule = 70

-- what may be left out, on a line of its own
abbrev pub line_rule : ℕ
line_rule = 71

-- a part on a line of its own, before others
abbrev pub lines_rule : ℕ
lines_rule = 72

-- a `switch`
abbrev pub switch_rule : ℕ
switch_rule = 73

-- a clause of a `switch`
abbrev pub switch_clause_rule : ℕ
switch_clause_rule = 74

-- a `loop`
abbrev pub loop_rule : ℕ
loop_rule = 75

-- what may be left out, on an indented line of its own
abbrev pub indented_line_rule : ℕ
indented_line_rule = 76

-- what a loop does after each turn
abbrev pub continuing_rule : ℕ
continuing_rule = 77

-- a `for`
abbrev pub for_rule : ℕ
for_rule = 78

-- a `while`
abbrev pub while_rule : ℕ
while_rule = 79

-- a module
abbrev pub unit_rule : ℕ
unit_rule = 80

-- a directive before others
abbrev pub directives_rule : ℕ
directives_rule = 81

-- the last directive
abbrev pub last_directive_rule : ℕ
last_directive_rule = 82

-- a severity and the name of a rule
abbrev pub diagnostic_directive_rule : ℕ
diagnostic_directive_rule = 83

-- the names of extensions
abbrev pub enable_rule : ℕ
enable_rule = 84

-- the names of extensions
abbrev pub requires_rule : ℕ
requires_rule = 85

-- the first declaration that is not a `;`, before others
abbrev pub first_declaration_rule : ℕ
first_declaration_rule = 86

-- a further one, before others
abbrev pub declarations_rule : ℕ
declarations_rule = 87

-- a further name for a type
abbrev pub alias_rule : ℕ
alias_rule = 88

-- a structure
abbrev pub struct_rule : ℕ
struct_rule = 89

-- a member before others
abbrev pub members_rule : ℕ
members_rule = 90

-- the last member
abbrev pub last_member_rule : ℕ
last_member_rule = 91

-- a member or a parameter
abbrev pub member_rule : ℕ
member_rule = 92

-- a function
abbrev pub function_rule : ℕ
function_rule = 93

-- what a function returns
abbrev pub result_rule : ℕ
result_rule = 94

-- what is printed by each rule, by its number
abbrev pub rules : List (List ℕ)
rules =
    codes "false" ∷
    codes "true" ∷
    codes "#" ∷
    codes "#i" ∷
    codes "#u" ∷
    codes "#" ∷
    codes "#f" ∷
    codes "#h" ∷
    codes "(%$)" ∷
    codes "#%$" ∷
    codes "# %$" ∷
    codes "$($)" ∷
    codes "#" ∷
    codes "#<$>" ∷
    codes "$$" ∷
    codes "%.#$" ∷
    codes "% .#$" ∷
    codes "%[%$]$" ∷
    codes "% # %$$" ∷
    codes "" ∷
    codes "%$, $" ∷
    codes "%$" ∷
    codes "$, $" ∷
    codes "$" ∷
    codes "$ | $" ∷
    codes "#, $" ∷
    codes "%$ $" ∷
    codes "%$\n" ∷
    codes "%$ " ∷
    codes "@#(%$)" ∷
    codes "@#" ∷
    codes "@builtin(#)" ∷
    codes "@diagnostic(#, #)" ∷
    codes "@interpolate(#$)" ∷
    codes ", #" ∷
    codes "@workgroup_size(%$$$)" ∷
    codes ", %$" ∷
    codes "@type($)" ∷
    codes "#, $" ∷
    codes "@#$" ∷
    codes "($)" ∷
    codes "var$" ∷
    codes "<#$>" ∷
    codes "$$ #$$" ∷
    codes ": $" ∷
    codes " = %$" ∷
    codes "$%$ # %$" ∷
    codes "$%$++" ∷
    codes "$%$--" ∷
    codes "$break" ∷
    codes "$continue" ∷
    codes "$discard" ∷
    codes "$return$" ∷
    codes " %$" ∷
    codes "$$" ∷
    codes "$const_assert %$" ∷
    codes "$break if %$;" ∷
    codes "default" ∷
    codes "$" ∷
    codes "$;" ∷
    codes "${^$" ∷
    codes "%$" ∷
    codes "\n%$$" ∷
    codes "~\n}" ∷
    codes "~\n\n}" ∷
    codes "~\n" ∷
    codes "~\n\n" ∷
    codes "$$$$" ∷
    codes "if %$ $" ∷
    codes "$else if %$ $" ∷
    codes "$else $" ∷
    codes "\n$" ∷
    codes "\n$$" ∷
    codes "$switch %$ ${^$" ∷
    codes "$case $ $" ∷
    codes "$loop $$}" ∷
    codes "^    $~\n" ∷
    codes "$continuing $$}" ∷
    codes "$for ($; $; $) $" ∷
    codes "$while %$ $" ∷
    codes "$$\n" ∷
    codes "$\n$" ∷
    codes "$\n\n" ∷
    codes "$diagnostic (#, #);" ∷
    codes "$enable $;" ∷
    codes "$requires $;" ∷
    codes "%$$" ∷
    codes "\n\n%$$" ∷
    codes "$alias # = $;" ∷
    codes "$struct # {^$" ∷
    codes "\n%$,$" ∷
    codes "\n%$~\n}" ∷
    codes "$#: $" ∷
    codes "$fn #($) $$" ∷
    codes "-> $$ " ∷
    []
