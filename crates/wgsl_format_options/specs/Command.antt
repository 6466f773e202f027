-- The options of the program, for `clap`.
use Rattle.std.specs.Prelude.{ℕ, true, List, [], ◌∷◌, Some, codes}
use Rattle.clap.specs.Words.{App, Rule, new_app, new_rule, with_rule}
use Rattle.clap.specs.declared.builder.action.ArgAction.TheVariants.{Append, SetTrue}

-- an option with one value
abbrev pub setting : List ℕ → Rule
setting name = record (new_rule name) { long = Some name; value_names = 1 }

-- an option without a value
abbrev pub flag : List ℕ → Rule
flag name = record (new_rule name) { long = Some name; action = Some SetTrue }

-- files and folders, and without any `-`
abbrev pub paths : Rule
paths = record (new_rule (codes "PATH")) { action = Some Append; defaults = codes "-" ∷ [] }

-- the program for `clap`, which is given no name of its own, with `--help` and `--version`; of an
-- option that is given twice the later one holds
abbrev pub program : App
program = record {
  top = record (new_app (codes "wgsltidy")).top {
    no_binary_name = true;
    args_override_self = true;
    has_version = true;
  };
  subs = [];
}

-- with its options without a value
abbrev pub with_flags : App → App
with_flags app = with_rule (with_rule (with_rule app (flag (codes "check"))) (flag (codes "diff")))
    (flag (codes "quiet"))

-- and those with one
abbrev pub with_settings : App → App
with_settings app = with_rule (with_rule (with_rule (with_rule app (setting (codes "stdin-path")))
    (setting (codes "width"))) (setting (codes "indent"))) (setting (codes "newlines"))

abbrev pub command : App
command = with_settings (with_flags (with_rule program paths))
