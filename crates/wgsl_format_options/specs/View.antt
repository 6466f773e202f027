-- The options of the code as plain data.
use Rattle.std.specs.Prelude.{◌≡◌, ◌⊎◌, map, Result, Ok, Err}
use Rattle.std.specs.Option.{option_copied}
use Rattle.clap.specs.Words.{Kinds, IsAmong, kind_of}
use Rattle.clap.specs.declared.error.Error.{Error}
use Rattle.clap.specs.declared.error.kind.ErrorKind.TheVariants.{OutOfMemory}
use Rattle.wgsl_format_options.specs.Options as plain
use Rattle.wgsl_format_options.specs.declared.options.Options.{Options}
use Rattle.wgsl_format_options.specs.declared.options.Source.{Source}
use Rattle.wgsl_format_options.specs.declared.options.Source.TheVariants as source

abbrev pub source_view : Source → plain.Source
source_view source.StandardInput = plain.standard_input
source_view (source.Path text) = plain.path text.now

abbrev pub options_view : Options → plain.Options
options_view options = record {
  mode = options.mode;
  quiet = options.quiet;
  stdin_path = option_copied options.stdin_path;
  choices = options.choices;
  sources = map source_view options.sources.items;
}

-- the options are those that are meant, or the error has one of the kinds, unless an allocation
-- failed
abbrev pub Gives : Result plain.Options Kinds → Result Options Error → Type 0
Gives meant (Ok options) = meant ≡ Ok (options_view options)
Gives meant (Err e) = (kind_of e ≡ OutOfMemory) ⊎ ((kinds : Kinds) × (meant ≡ Err kinds) × IsAmong (kind_of e) kinds)
