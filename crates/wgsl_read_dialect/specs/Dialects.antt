-- The languages of the code as those of the grammar.
use Rattle.wgsl_model.specs.Grammar.Symbols.{Dialect, Dialect.parsed, Dialect.recognized}
use Rattle.wgsl_read_dialect.specs.declared.dialect.Dialect.TheVariants as variant
use Rattle.wgsl_read_dialect.specs.declared.dialect.Dialect as declared

-- which dialect it is
abbrev pub dialect_view : declared.Dialect → Dialect
dialect_view variant.Parsed = parsed
dialect_view variant.Recognized = recognized
