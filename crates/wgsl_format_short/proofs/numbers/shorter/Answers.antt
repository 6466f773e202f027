use Rattle.std.proofs.Common.{string_bytes}
use Rattle.std.proofs.lemmas.Str.{IsUtf8-string_bytes}
use Rattle.wgsl_format_short.proofs.Hexadecimal.{shorter_is}
use Rattle.wgsl_format_short.proofs.numbers.shorter.Goals as goal

pub returns : goal.returns
returns c = shorter_is c.args.number c.in-Ok.number (string_bytes c.in_ok-other.other) c.args.text.now
    c.keep_shorter.result c.ranges.number c.in-Ok.ensures
    (IsUtf8-string_bytes c.in_ok-other.other) c.utf8.text c.in_ok-other.ensures c.keep_shorter.ensures
