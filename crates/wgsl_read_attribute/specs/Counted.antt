-- Arguments by their number.
use Rattle.std.specs.Prelude.{List, [], ◌∷◌, Option, Some, None, option_map, option_and_then, codes}
use Rattle.wgsl_model.specs.Trees.Expressions.{ExpressionNode}
use Rattle.wgsl_model.specs.Trees.NamedValues.{AccessMode, AddressSpace, interpolation_types, interpolation_samplings}
use Rattle.wgsl_model.specs.Trees.Attributes.{InterpolateAttribute}
use Rattle.wgsl_model.specs.Grammar.Checks.{Checked, right, wrong, Arguments, untemplated_word, space_and_mode}

-- the items of a list that has one to three
abbrev pub one_to_three : {A : Type 0} → List A → Option (A × Option A × Option A)
one_to_three [] = None
one_to_three (a ∷ []) = Some (a, None, None)
one_to_three (a ∷ (b ∷ [])) = Some (a, Some b, None)
one_to_three (a ∷ (b ∷ (c ∷ []))) = Some (a, Some b, Some c)
one_to_three (a ∷ (b ∷ (c ∷ (d ∷ ds)))) = None

-- one to three items, each as f shows it
abbrev pub seen_by : {A B : Type 0} → (A → B) → A × Option A × Option A → B × Option B × Option B
seen_by f p = (f p.0, option_map f p.1, option_map f p.2)

-- one argument to three
abbrev pub arguments_of : Arguments → Option (ExpressionNode × Option ExpressionNode × Option ExpressionNode)
arguments_of arguments = option_and_then one_to_three arguments

-- the argument, where one to three hold one alone
abbrev pub only_of : Option (ExpressionNode × Option ExpressionNode × Option ExpressionNode) → Checked ExpressionNode
only_of (Some (e, None, None)) = right e
only_of _ = wrong (codes "expected 1 argument")

-- the argument of a list of one
abbrev pub only_argument : Arguments → Checked ExpressionNode
only_argument arguments = only_of (arguments_of arguments)

-- the arguments, where one to three hold two
abbrev pub two_of : Option (ExpressionNode × Option ExpressionNode × Option ExpressionNode)
    → Checked (ExpressionNode × ExpressionNode)
two_of (Some (e, Some f, None)) = right (e, f)
two_of _ = wrong (codes "expected 2 arguments")

-- the arguments of a list of two
abbrev pub two_arguments : Arguments → Checked (ExpressionNode × ExpressionNode)
two_arguments arguments = two_of (arguments_of arguments)

-- the interpolation that one or two of these arguments say
abbrev pub interpolation_of : Option (ExpressionNode × Option ExpressionNode × Option ExpressionNode)
    → Option InterpolateAttribute
interpolation_of (Some (e, None, None)) = option_map (λ ty. record { ty = ty; sampling = None })
    (untemplated_word interpolation_types e)
interpolation_of (Some (e, Some s, None)) =
    option_and_then (λ ty. option_map (λ sampling. record { ty = ty; sampling = Some sampling })
    (untemplated_word interpolation_samplings s)) (untemplated_word interpolation_types e)
interpolation_of _ = None

-- the interpolation of a list of one or two
abbrev pub interpolation : Arguments → Option InterpolateAttribute
interpolation arguments = interpolation_of (arguments_of arguments)

-- what comes after what is right
abbrev pub and_then : {A B : Type 0} → Checked A → (A → Checked B) → Checked B
and_then (right a) f = f a
and_then (wrong text) f = wrong text

-- an address space, and an access mode if there is one
abbrev pub space_with_mode : Option AddressSpace → Option ExpressionNode → Checked (AddressSpace × Option AccessMode)
space_with_mode None mode = wrong (codes "invalid address space")
space_with_mode (Some space) None = right (space, None)
space_with_mode (Some space) (Some mode) = space_and_mode (Some space) mode
