use Rattle.std.proofs.Common.{◌++◌, ◌≡◌, codes, List, ℕ}
use Rattle.std.specs.Fmt.{HasWritten, IsPlainFormatter}
use Rattle.wgsl_model_packed.specs.Json.{escaped}
use Rattle.wgsl_name_map.proofs.text.write_text.Given as goal

-- what is written so far, and what is left
abbrev pub invariant-text : goal.invariant-text
invariant-text g l =
    IsPlainFormatter l.fn.f → (done : List ℕ) × HasWritten g.W.Write.write_str_gives l.fn.f done l.f
    × (done ++ escaped l.c-iterator.rest.now ≡ codes "\"" ++ escaped l.fn.text)
