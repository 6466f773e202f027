use Rattle.std.proofs.Common.{rules, ◌≡◌, subst, drop, get_or, map, string_bytes, ◌+◌}
use Rattle.wgsl_format_files.specs.Configs.{IsSaidAt, AreChosenBy}
use Rattle.wgsl_format_files.proofs.Configs.{chosen_more, chosen_last}
use Rattle.wgsl_format_files.proofs.config.choices_by.Goals as goal

pub loop-path-preserved : goal.loop-path-preserved
loop-path-preserved g c = λ all rest.
    let files = g.S.Store.files c.args.store.now in
    let at : c.as_str.result.now
    ≡ string_bytes (get_or c.args.paths.now c.loop-path.path-index c.path-item.result) = search rules in
    c.loop-path.invariant all (chosen_more files c.args.paths.now c.loop-path.path-index
    c.path-item.result c.loop-path.chosen c.in_ok-said.said all c.loop-path-test.true
    (subst (λ x. IsSaidAt files x c.in_ok-said.said) at c.in_ok-said.ensures) c.if-said.false
    (subst (λ x. AreChosenBy files x (map string_bytes
    (drop (c.loop-path.path-index + 1) c.args.paths.now)) all) c.or-chosen.ensures rest))

pub returns-then-said : goal.returns-then-said
returns-then-said g c =
    let files = g.S.Store.files c.args.store.now in
    let at : c.as_str.result.now
    ≡ string_bytes (get_or c.args.paths.now c.loop-path.path-index c.path-item.result) = search rules in
    c.loop-path.invariant _ (chosen_last files c.args.paths.now c.loop-path.path-index
    c.path-item.result c.loop-path.chosen c.in_ok-said.said _ c.loop-path-test.true
    (subst (λ x. IsSaidAt files x c.in_ok-said.said) at c.in_ok-said.ensures) c.if-said.true c.or-chosen.ensures)
