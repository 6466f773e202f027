use Rattle.std.proofs.Common.{sym, ◌∙◌, ap, drop, [], arith, rules}
use Rattle.wgsl_model.specs.Trees.Paths.{path_parts, levels}
use Rattle.wgsl_tree_path.proofs.Parts.{one_part, more_parts, shorter}
use Rattle.wgsl_tree_path.proofs.Reading.{is_other, is_same, levels_other, levels_super, after_super}
use Rattle.wgsl_tree_path.proofs.read.split_levels.Goals as goal

pub returns-then-ne-clause-levels : goal.returns-then-ne-clause-levels
returns-then-ne-clause-levels c =
    let parts = more_parts c.levels.left.now c.in-Some.part c.in-Some.rest c.in-Some.ensures.cases in
    let none = ap levels parts
    ∙ levels_other c.in-Some.part.now (path_parts c.in-Some.rest.now) (is_other _ c.if-ne.ensures) in
    omega (arith, none, c.levels.invariant.1)

pub returns-then-ne-clause-rest : goal.returns-then-ne-clause-rest
returns-then-ne-clause-rest c =
    let left = c.levels.left.now in
    let parts = more_parts left c.in-Some.part c.in-Some.rest c.in-Some.ensures.cases in
    let none = ap levels parts
    ∙ levels_other c.in-Some.part.now (path_parts c.in-Some.rest.now) (is_other _ c.if-ne.ensures) in
    sym (ap (λ n. drop n (path_parts left)) none) ∙ c.levels.invariant.2

pub levels-preserved : goal.levels-preserved
levels-preserved c =
    let part = c.in-Some.part.now in
    let rest = path_parts c.in-Some.rest.now in
    let parts = more_parts c.levels.left.now c.in-Some.part c.in-Some.rest c.in-Some.ensures.cases in
    let same = is_same _ c.if-ne.ensures in (
      search rules,
      omega (arith, ap levels parts ∙ levels_super part rest same, c.levels.invariant.1),
      sym (after_super part rest same) ∙ sym (ap (λ xs. drop (levels xs) xs) parts) ∙ c.levels.invariant.2,
      omega (
        arith,
        shorter c.levels.left.now c.in-Some.part c.in-Some.rest c.in-Some.ensures.cases,
        c.levels.invariant.3,
      ),
    )

pub returns-else-eq-clause-levels : goal.returns-else-eq-clause-levels
returns-else-eq-clause-levels c =
    let parts = one_part c.levels.left.now c.in_default.ensures.cases in
    let none = ap levels parts ∙ levels_other c.levels.left.now [] (sym c.if-eq.ensures) in
    omega (arith, none, c.levels.invariant.1)

pub returns-else-eq-clause-rest : goal.returns-else-eq-clause-rest
returns-else-eq-clause-rest c =
    let left = c.levels.left.now in
    let none = ap levels (one_part left c.in_default.ensures.cases) ∙ levels_other left [] (sym c.if-eq.ensures) in
    sym (ap (λ n. drop n (path_parts left)) none) ∙ c.levels.invariant.2
