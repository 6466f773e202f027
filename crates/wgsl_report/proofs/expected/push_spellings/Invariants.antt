use Rattle.std.proofs.Common.{◌≡◌, ◌++◌, drop, map, string_bytes}
use Rattle.std.specs.List.{filter}
use Rattle.wgsl_model.specs.Faults.Kinds.{quoted}
use Rattle.wgsl_report.specs.Faults.{is_spelling}
use Rattle.wgsl_report.proofs.expected.push_spellings.Given as goal

-- the words so far, and those for the texts that are left
abbrev pub invariant-loop-text : goal.invariant-loop-text
invariant-loop-text l =
    map string_bytes l.words.items ++ map quoted (filter is_spelling (map string_bytes (drop l.text-index l.expected)))
    ≡ map string_bytes l.initial.words.items ++ map quoted (filter is_spelling (map string_bytes l.expected))
