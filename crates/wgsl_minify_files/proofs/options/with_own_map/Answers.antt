use Rattle.std.proofs.Common.{Bool, inl, inr, sym, ap, [], ◌∷◌, Result, Ok, Err, if◌then◌else◌}
use Rattle.clap.specs.Words.{Kinds}
use Rattle.clap.specs.declared.error.kind.ErrorKind.TheVariants.{ArgumentConflict}
use Rattle.wgsl_minify_files.specs.Options.{Options}
use Rattle.wgsl_minify_files.specs.View.{options_view}
use Rattle.wgsl_minify_files.proofs.options.with_own_map.Goals as goal

-- what is asked for, by whether the path for the new names is another's
answer : Options → Bool → Result Options Kinds
answer options taken = if taken then Err (ArgumentConflict ∷ []) else Ok options

pub returns-then-is_taken : goal.returns-then-is_taken
unfolding answer
returns-then-is_taken c = inr (
  ArgumentConflict ∷ [],
  ap (answer (options_view c.args.options)) (sym c.if-is_taken.ensures),
  inl c.in_ok-error.ensures.kind,
)

pub returns : goal.returns
unfolding answer
returns c = ap (answer (options_view c.args.options)) (sym c.if-is_taken.ensures)
