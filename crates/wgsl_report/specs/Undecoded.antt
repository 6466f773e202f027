-- What is reported of bytes that are not UTF-8.
use Rattle.std.specs.Prelude.{ℕ, List, codes, chars, take}
use Rattle.std.specs.Str.Lossy.{utf8_valid_len}
use Rattle.wgsl_report.specs.Messages.{reported}

-- what is reported of bytes of the file of this name, of which so many are UTF-8: the place of the
-- next one, and the line up to there
abbrev pub reported_after : List ℕ → List ℕ → ℕ → List ℕ
reported_after name bytes valid = reported name (codes "not UTF-8") (chars (take valid bytes))
    (record { start = valid; end = valid })

-- what is reported of bytes of the file of this name that are not UTF-8
abbrev pub undecoded_message : List ℕ → List ℕ → List ℕ
undecoded_message name bytes = reported_after name bytes (utf8_valid_len bytes)
