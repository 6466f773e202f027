use Rattle.std.proofs.Common.{drop, map, string_bytes}
use Rattle.wgsl_choices.specs.declared.Choices.{Choices}
use Rattle.wgsl_format_files.specs.Configs.{AreChosenBy}
use Rattle.wgsl_format_files.proofs.config.choices_by.Given as goal

-- what the files that are left make of what is chosen so far, all make of what was
abbrev pub invariant-loop-path : goal.invariant-loop-path
invariant-loop-path g l = (all : Choices)
    → AreChosenBy (g.S.Store.files l.fn.store) l.chosen (map string_bytes (drop l.path-index l.paths)) all
    → AreChosenBy (g.S.Store.files l.fn.store) l.fn.choices (map string_bytes l.paths) all
