-- Words and the texts of numbers are told apart.
use Rattle.std.proofs.Common.{ℕ, ◌≡◌, refl, sym, ap, ◌∙◌, List, [], ◌∷◌, Some}
use Rattle.wgsl_model.specs.Tokens.Words.{look_up}
use Rattle.wgsl_model.specs.Trees.NamedValues.{WordTable, with_words, error, severity_text, severities, function, address_space_text, address_spaces, read, access_mode_text, access_modes, vertex_index, builtin_value_text, builtin_values, perspective, interpolation_type_text, interpolation_types, center, interpolation_sampling_text, interpolation_samplings}
use Rattle.wgsl_model.specs.Trees.Attributes.{align, one_argument_text, one_argument_attributes, const_attribute, no_argument_text, no_argument_attributes}
use Rattle.wgsl_model.specs.Trees.Operators.{UnaryOperator, logical_negation, negation, bitwise_complement, address_of, indirection, BinaryOperator, short_circuit_or, short_circuit_and, addition, subtraction, multiplication, division, remainder, equality, inequality, less_than, less_than_equal, greater_than, greater_than_equal, bitwise_or, bitwise_and, bitwise_xor, shift_left, shift_right, AssignmentOperator, equal, plus_equal, minus_equal, times_equal, division_equal, modulo_equal, and_equal, or_equal, xor_equal, shift_right_assign, shift_left_assign}
use Rattle.wgsl_model.specs.Printed.Operators.{unary_operator_text, binary_operator_text, assignment_operator_text}
use Rattle.wgsl_model_packed.specs.Printing.{packed_text}
use Rattle.wgsl_theory_packed.proofs.Told.Forms.{Tells, told_text, so}

some_is : {W : Type 0} (v w : W) → Some v ≡ Some w → v ≡ w
some_is v w e = cc

-- words of which a table has each are told apart
abbrev pub AreWordsTold : {W : Type 0} → (W → List ℕ) → Type 0
AreWordsTold {W} text = (v w : W) → Tells (packed_text (text v)) (packed_text (text w)) (v ≡ w)

told_word : {W : Type 0} (text : W → List ℕ) (table : WordTable W) → ((w : W) → look_up table (text w) ≡ Some w)
    → AreWordsTold text
told_word text table row v w =
    so (λ e. some_is v w (sym (row v) ∙ ap (look_up table) e ∙ row w)) (told_text (text v) (text w))

abbrev unary_operators : WordTable UnaryOperator
unary_operators = with_words unary_operator_text
    (logical_negation ∷ negation ∷ bitwise_complement ∷ address_of ∷ indirection ∷ [])

abbrev binary_operators : WordTable BinaryOperator
binary_operators = with_words binary_operator_text
    (short_circuit_or ∷ short_circuit_and ∷ addition ∷ subtraction ∷ multiplication ∷ division
    ∷ remainder ∷ equality ∷ inequality ∷ less_than ∷ less_than_equal ∷ greater_than
    ∷ greater_than_equal ∷ bitwise_or ∷ bitwise_and ∷ bitwise_xor ∷ shift_left ∷ shift_right ∷ [])

abbrev assignment_operators : WordTable AssignmentOperator
assignment_operators = with_words assignment_operator_text
    (equal ∷ plus_equal ∷ minus_equal ∷ times_equal ∷ division_equal ∷ modulo_equal ∷ and_equal
    ∷ or_equal ∷ xor_equal ∷ shift_right_assign ∷ shift_left_assign ∷ [])

pub told_one_argument : AreWordsTold one_argument_text
told_one_argument = told_word one_argument_text (with_words one_argument_text one_argument_attributes)
    (elim [ align ↦ refl | _ ↦ refl ])

pub told_no_argument : AreWordsTold no_argument_text
told_no_argument = told_word no_argument_text (with_words no_argument_text no_argument_attributes)
    (elim [ const_attribute ↦ refl | _ ↦ refl ])

pub told_unary_operator : AreWordsTold unary_operator_text
told_unary_operator = told_word unary_operator_text unary_operators
    (elim [ negation ↦ refl | _ ↦ refl ])

pub told_binary_operator : AreWordsTold binary_operator_text
told_binary_operator = told_word binary_operator_text binary_operators
    (elim [ addition ↦ refl | _ ↦ refl ])

pub told_assignment_operator : AreWordsTold assignment_operator_text
told_assignment_operator = told_word assignment_operator_text assignment_operators
    (elim [ equal ↦ refl | _ ↦ refl ])

pub told_severity : AreWordsTold severity_text
told_severity = told_word severity_text severities (elim [ error ↦ refl | _ ↦ refl ])

pub told_address_space : AreWordsTold address_space_text
told_address_space = told_word address_space_text address_spaces (elim [ function ↦ refl | _ ↦ refl ])

pub told_access_mode : AreWordsTold access_mode_text
told_access_mode = told_word access_mode_text access_modes (elim [ read ↦ refl | _ ↦ refl ])

pub told_builtin_value : AreWordsTold builtin_value_text
told_builtin_value = told_word builtin_value_text builtin_values
    (elim [ vertex_index ↦ refl | _ ↦ refl ])

pub told_interpolation_type : AreWordsTold interpolation_type_text
told_interpolation_type = told_word interpolation_type_text interpolation_types
    (elim [ perspective ↦ refl | _ ↦ refl ])

pub told_interpolation_sampling : AreWordsTold interpolation_sampling_text
told_interpolation_sampling = told_word interpolation_sampling_text interpolation_samplings
    (elim [ center ↦ refl | _ ↦ refl ])
