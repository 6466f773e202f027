-- Written by tools/tables/tree_readers.py from crates/wgsl_model/nodes: operators read from their
-- codes.
use Rattle.std.specs.Prelude.{[], ◌∷◌, Option, None, Some, codes, ◌≡◌}
use Rattle.std.proofs.Common.{refl}
use Rattle.wgsl_model.specs.Trees.Operators as plain
use Rattle.wgsl_tree_code.specs.Code.{Code, text}
use Rattle.wgsl_tree_code.proofs.Reading.{chosen}
use Rattle.wgsl_tree_code.specs.OperatorNodes.{assignment_operator_code, binary_operator_code, unary_operator_code}

abbrev pub unary_operator_of : Code → Option plain.UnaryOperator
unary_operator_of (text word) = chosen word ((codes "!", λ _. Some plain.logical_negation)
    ∷ (codes "-", λ _. Some plain.negation) ∷ (codes "~", λ _. Some plain.bitwise_complement)
    ∷ (codes "&", λ _. Some plain.address_of) ∷ (codes "*", λ _. Some plain.indirection) ∷ [])
unary_operator_of c = None

abbrev pub binary_operator_of : Code → Option plain.BinaryOperator
binary_operator_of (text word) = chosen word
    ((codes "||", λ _. Some plain.short_circuit_or) ∷ (codes "&&", λ _. Some plain.short_circuit_and)
    ∷ (codes "+", λ _. Some plain.addition) ∷ (codes "-", λ _. Some plain.subtraction)
    ∷ (codes "*", λ _. Some plain.multiplication) ∷ (codes "/", λ _. Some plain.division)
    ∷ (codes "%", λ _. Some plain.remainder) ∷ (codes "==", λ _. Some plain.equality)
    ∷ (codes "!=", λ _. Some plain.inequality) ∷ (codes "<", λ _. Some plain.less_than)
    ∷ (codes "<=", λ _. Some plain.less_than_equal) ∷ (codes ">", λ _. Some plain.greater_than)
    ∷ (codes ">=", λ _. Some plain.greater_than_equal) ∷ (codes "|", λ _. Some plain.bitwise_or)
    ∷ (codes "&", λ _. Some plain.bitwise_and) ∷ (codes "^", λ _. Some plain.bitwise_xor)
    ∷ (codes "<<", λ _. Some plain.shift_left) ∷ (codes ">>", λ _. Some plain.shift_right) ∷ [])
binary_operator_of c = None

abbrev pub assignment_operator_of : Code → Option plain.AssignmentOperator
assignment_operator_of (text word) = chosen word
    ((codes "=", λ _. Some plain.equal) ∷ (codes "+=", λ _. Some plain.plus_equal)
    ∷ (codes "-=", λ _. Some plain.minus_equal) ∷ (codes "*=", λ _. Some plain.times_equal)
    ∷ (codes "/=", λ _. Some plain.division_equal) ∷ (codes "%=", λ _. Some plain.modulo_equal)
    ∷ (codes "&=", λ _. Some plain.and_equal) ∷ (codes "|=", λ _. Some plain.or_equal)
    ∷ (codes "^=", λ _. Some plain.xor_equal) ∷ (codes ">>=", λ _. Some plain.shift_right_assign)
    ∷ (codes "<<=", λ _. Some plain.shift_left_assign) ∷ [])
assignment_operator_of c = None

pub unary_operator_read : (x : plain.UnaryOperator) → unary_operator_of (unary_operator_code x) ≡ Some x
unary_operator_read plain.logical_negation = refl
unary_operator_read _ = refl

pub binary_operator_read : (x : plain.BinaryOperator) → binary_operator_of (binary_operator_code x) ≡ Some x
binary_operator_read plain.short_circuit_or = refl
binary_operator_read _ = refl

pub assignment_operator_read : (x : plain.AssignmentOperator)
    → assignment_operator_of (assignment_operator_code x) ≡ Some x
assignment_operator_read plain.equal = refl
assignment_operator_read _ = refl
