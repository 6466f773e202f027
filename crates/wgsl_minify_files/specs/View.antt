-- The options of the code as plain data.
use Rattle.std.specs.Prelude.{◌≡◌, ◌⊎◌, option_map, Result, Ok, Err}
use Rattle.std.specs.Option.{option_copied}
use Rattle.clap.specs.Words.{Kinds, IsAmong, kind_of}
use Rattle.clap.specs.declared.error.Error.{Error}
use Rattle.clap.specs.declared.error.kind.ErrorKind.TheVariants.{OutOfMemory}
use Rattle.wgsl_minify_names.specs.View.{texts, which_view}
use Rattle.wgsl_minify_files.specs.Options as plain
use Rattle.wgsl_minify_files.specs.declared.options.Options.{Options}
use Rattle.wgsl_minify_files.specs.declared.options.Target.{Target}
use Rattle.wgsl_minify_files.specs.declared.options.Target.TheVariants.{Output, File}

abbrev pub target_view : Target → plain.Target
target_view Output = plain.to_stream
target_view (File path) = plain.to_file path.now

abbrev pub options_view : Options → plain.Options
options_view options = record {
  input = option_copied options.input;
  output = target_view options.output;
  map = option_map target_view options.map;
  which = which_view options.names;
  keep = texts options.keep.items;
}

-- the options are those that are meant, or the error has one of the kinds, unless an allocation
-- failed
abbrev pub Gives : Result plain.Options Kinds → Result Options Error → Type 0
Gives meant (Ok options) = meant ≡ Ok (options_view options)
Gives meant (Err e) = (kind_of e ≡ OutOfMemory) ⊎ ((kinds : Kinds) × (meant ≡ Err kinds) × IsAmong (kind_of e) kinds)
