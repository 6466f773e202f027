use Rattle.std.proofs.Common.{◌≡◌, ◌++◌, drop, map, string_bytes}
use Rattle.wgsl_format_files.specs.Configs.{paths_from}
use Rattle.wgsl_format_files.proofs.config.paths_from.Given as goal

-- the paths so far and those of the names that are left are all
abbrev pub invariant-loop-name : goal.invariant-loop-name
invariant-loop-name l = map string_bytes l.paths.items
    ++ paths_from (string_bytes l.above) (map (λ name. name.now) (drop l.name-index l.fn.names))
    ≡ paths_from l.fn.folder (map (λ name. name.now) l.fn.names)
