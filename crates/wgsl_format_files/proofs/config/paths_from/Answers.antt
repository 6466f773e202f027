use Rattle.std.proofs.Common.{◌≡◌, ap, ◌∙◌, ◌+◌, ◌++◌, drop, get_or, map, codes, string_bytes}
use Rattle.wgsl_format_files.specs.Configs.{paths_from}
use Rattle.wgsl_format_files.proofs.Configs.{paths_more}
use Rattle.wgsl_format_files.proofs.config.paths_from.Goals as goal

pub loop-name-preserved : goal.loop-name-preserved
loop-name-preserved c =
    let at = c.loop-name in
    let names = c.args.names.now in
    let next = c.in_ok-above-2.above in
    let to : string_bytes next ≡ string_bytes at.above
    ++ ((get_or names at.name-index _).now ++ codes "/") = c.in_ok-above-2.ensures.ok in
    ap (λ paths. map string_bytes paths ++ paths_from (string_bytes next)
    (map (λ name. name.now) (drop (at.name-index + 1) names))) c.in_ok-push.ensures.items
    ∙ paths_more at.paths.items c.in_ok-format.field-0 at.above next names at.name-index _ _
    c.loop-name-test.true c.in_ok-format.ensures.ok to at.invariant
