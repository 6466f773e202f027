-- Printed texts that are not empty.
use Rattle.std.proofs.Common.{◌≡◌, ℕ, false, List, [], ◌∷◌, ◌++◌, arith}
use Rattle.std.specs.Prelude.{codes}
use Rattle.wgsl_model.specs.Trees.Statements.{Statement, SwitchClause, switch_clause, ContinuingStatement, continuing}
use Rattle.wgsl_model.specs.Trees.Units.{StructMember}
use Rattle.wgsl_model.specs.Printed.Expressions.{print_type}
use Rattle.wgsl_model.specs.Printed.Attributes.{print_attribute_line}
use Rattle.wgsl_model.specs.Printed.Statements.{is_void, print_statement, print_switch_clause, print_continuing}
use Rattle.wgsl_model.specs.Printed.Units.{print_member}

-- a text is not empty
abbrev pub IsFilled : List ℕ → Type 0
IsFilled [] = ⊥
IsFilled (b ∷ bs) = Unit {0}

pub left_filled : (xs ys : List ℕ) → IsFilled xs → IsFilled (xs ++ ys)
left_filled [] ys h = absurd h
left_filled (x ∷ xs) ys h = tt

pub right_filled : (xs ys : List ℕ) → IsFilled ys → IsFilled (xs ++ ys)
right_filled [] ys h = h
right_filled (x ∷ xs) ys h = tt

-- a statement that is not empty has a text
pub statement_filled : (s : Statement) → is_void s ≡ false → IsFilled (print_statement s)
statement_filled s h = grind (arith, left_filled, right_filled)

pub continuing_filled : (c : ContinuingStatement) → IsFilled (print_continuing c)
continuing_filled (continuing a body condition) = left_filled _ _
    (left_filled _ _ (left_filled _ _ (right_filled (print_attribute_line a) (codes "continuing ") tt)))

pub clause_filled : (c : SwitchClause) → IsFilled (print_switch_clause c)
clause_filled (switch_clause a selectors block) = left_filled _ _
    (left_filled _ _ (left_filled _ _ (right_filled (print_attribute_line a) (codes "case ") tt)))

pub member_filled : (m : StructMember) → IsFilled (print_member m)
member_filled m =
    let named = print_attribute_line m.attributes ++ m.ident in
    left_filled (named ++ codes ": ") (print_type m.ty) (right_filled named (codes ": ") tt)
