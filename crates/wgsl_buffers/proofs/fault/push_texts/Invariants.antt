use Rattle.std.proofs.Common.{◌≡◌, ◌++◌, take, map, string_bytes}
use Rattle.std.specs.List.{flat_map}
use Rattle.wgsl_buffers.specs.Answers.{nul_terminated}
use Rattle.wgsl_buffers.proofs.fault.push_texts.Given as goal

abbrev pub invariant-texts : goal.invariant-texts
invariant-texts l =
    string_bytes l.texts
    ≡ string_bytes l.initial.texts ++ flat_map nul_terminated (map string_bytes (take l.text-index l.more))
