-- A string's bytes are UTF-8.
use Rattle.std.specs.Prelude.{string_bytes}
use Rattle.std.specs.Str.{IsUtf8}
use Rattle.std.specs.declared.alloc.Global.{Global}
use Rattle.std.specs.declared.string.String.{String}
use Rattle.std.proofs.lemmas.Str.{IsUtf8-string_bytes}

pub valid : (s : String Global) → IsUtf8 (string_bytes s)
valid s = IsUtf8-string_bytes s
