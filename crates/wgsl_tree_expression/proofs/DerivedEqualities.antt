-- `==` of names and of literals is sameness of their codes.
use Rattle.std.specs.Prelude.{ℤ, pos, negsuc, ◌==◌}
use Rattle.std.specs.Ordering.{int_eq}
use Rattle.std.proofs.lemmas.Bool.Decides.{Decides-eqb, Decides-int_eq, Decides-like, same_from_decides}
use Rattle.std.proofs.Common.{ℕ, List, [], true, ◌≡◌, ◌↔◌, refl, sym, ◌∙◌, ap}
use Rattle.wgsl_tree_code.specs.Code.{Code, text, absent}
use Rattle.wgsl_tree_code.specs.Same.{same}
use Rattle.wgsl_tree_code.specs.Laws.{same_equal, equal_same}
use Rattle.wgsl_tree_code.specs.ExpressionNodes.{literal_code}
use Rattle.wgsl_tree_code.proofs.SpanlessExpressionNodes.{literal_expression_equal}
use Rattle.wgsl_tree_expression.specs.declared.ident.Ident.{Ident}
use Rattle.wgsl_tree_expression.specs.declared.literal.LiteralExpression.{LiteralExpression}
use Rattle.wgsl_tree_expression.specs.declared.literal.LiteralExpression.TheVariants as literal
use Rattle.wgsl_tree_expression.specs.View.{ident_name, literal_view}
use Rattle.wgsl_tree_expression.specs.Equality.{equal_idents, equal_literals}

abbrev magnitude : ℤ → ℕ
magnitude (pos n) = n
magnitude (negsuc n) = n

naturals_same : (m n : ℕ) → (m == n) ≡ int_eq (pos m) (pos n)
naturals_same m n = same_from_decides _ _ (Decides-eqb m n)
    (Decides-like (int_eq (pos m) (pos n)) (ap magnitude) (ap pos) (Decides-int_eq (pos m) (pos n)))

literals_same : (a b : LiteralExpression)
    → equal_literals a b ≡ same (literal_code (literal_view a)) (literal_code (literal_view b))
literals_same (literal.Bool a) (literal.Bool b) = refl
literals_same (literal.Bool a) other = refl
literals_same (literal.AbstractInt m) (literal.AbstractInt n) = refl
literals_same (literal.AbstractInt m) other = refl
literals_same (literal.I32 m) (literal.I32 n) = refl
literals_same (literal.I32 m) other = refl
literals_same (literal.U32 m) (literal.U32 n) = naturals_same m n
literals_same (literal.U32 m) other = refl
literals_same (literal.AbstractFloat s) (literal.AbstractFloat t) = refl
literals_same (literal.AbstractFloat s) other = refl
literals_same (literal.F32 s) (literal.F32 t) = refl
literals_same (literal.F32 s) other = refl
literals_same (literal.F16 s) (literal.F16 t) = refl
literals_same (literal.F16 s) other = refl

pub literals_agree : (a b : LiteralExpression) → (equal_literals a b ≡ true) ↔ (literal_view a ≡ literal_view b)
literals_agree a b =
    let law = literal_expression_equal (literal_view a) (literal_view b) in
    (λ e. law.0 (sym (literals_same a b) ∙ e), λ e. literals_same a b ∙ law.1 e)

abbrev bytes_of : Code → List ℕ
bytes_of (text bytes) = bytes
bytes_of c = []

pub idents_agree : (a b : Ident) → (equal_idents a b ≡ true) ↔ (ident_name a ≡ ident_name b)
idents_agree a b = (
  λ e. ap bytes_of (same_equal (text (ident_name a)) (text (ident_name b)) e),
  λ e. equal_same (text (ident_name a)) (text (ident_name b)) (ap text e),
)
