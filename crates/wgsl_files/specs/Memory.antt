-- What a store in memory holds.
use Rattle.std.specs.Prelude.{ℕ, true, String}
use Rattle.std.specs.Option.{option_map}
use Rattle.std.specs.BTreeMap.{BTreeMap, get_by_text}
use Rattle.std.specs.declared.alloc.Global.{Global}
use Rattle.std.specs.declared.vec.Vec.{Vec}
use Rattle.wgsl_files.specs.Files.{Files}

-- the files of a map from paths to bytes
abbrev pub files_of : BTreeMap (String Global) (Vec ℕ Global) → Files
files_of files = record { known = true; at = λ path. option_map (λ bytes. bytes.items) (get_by_text files path) }
