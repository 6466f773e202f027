-- What `==` of statements is shown from: tests one after another, and statements of one kind.
use Rattle.std.proofs.Common.{Bool, true, false, ◌&&◌, ◌≡◌, refl, sym, ◌∙◌}
use Rattle.wgsl_model.specs.Trees.Statements as plain
use Rattle.wgsl_tree_code.specs.Same.{same}
use Rattle.wgsl_tree_code.specs.StatementNodes.{statement_code}
use Rattle.wgsl_tree_statement.specs.declared.statement.Statement.{Statement}
use Rattle.wgsl_tree_statement.specs.View.{statement_view}

-- a conjunction, from what its first test gave
pub and_true : {r A B x : Bool} → r ≡ true → r ≡ A → x ≡ B → x ≡ A && B
and_true {r} {A} {B} {x} holds first second = second ∙ (λ i. (sym holds ∙ first) i && B)

pub and_false : {r A x : Bool} (B : Bool) → r ≡ false → r ≡ A → x ≡ r → x ≡ A && B
and_false {r} {A} {x} B fails first same_as = same_as ∙ fails ∙ (λ i. (sym fails ∙ first) i && B)

pub and_3 : (a b c : Bool) → a && (b && c) ≡ (a && b) && c
and_3 true b c = refl
and_3 false b c = refl

-- two statements of one kind are compared by what they hold
pub of_one_kind : {s t v w : Statement} {p q : plain.Statement} {told answer : Bool}
    → s ≡ v → statement_view v ≡ p → t ≡ w → statement_view w ≡ q
    → told ≡ same (statement_code p) (statement_code q) → told ≡ answer
    → answer ≡ same (statement_code (statement_view s)) (statement_code (statement_view t))
of_one_kind {s} {t} {v} {w} first shown second seen alike is = sym is ∙ alike
    ∙ (λ i. same (statement_code (sym shown i)) (statement_code (sym seen i)))
    ∙ (λ i. same (statement_code (statement_view (sym first i))) (statement_code (statement_view (sym second i))))
