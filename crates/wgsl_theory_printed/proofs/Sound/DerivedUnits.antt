-- A module that a text derives is sound: its printed text is UTF-8, and is read along the tokens
-- that are written from the module.
use Rattle.std.proofs.Common.{ℕ, List, []}
use Rattle.std.specs.Str.{IsUtf8, chars}
use Rattle.grammar.specs.Grammar.{Mode.checking}
use Rattle.grammar.proofs.Reading.Depth.{least}
use Rattle.wgsl_model.specs.Trees.Units.{TranslationUnit}
use Rattle.wgsl_model.specs.Printed.Units.{print_unit}
use Rattle.wgsl_model.specs.Program.{IsUnit}
use Rattle.wgsl_model.specs.Tokens.TokenList.{width}
use Rattle.grammar.specs.Endings.{Ending.finished}
use Rattle.wgsl_model.specs.Grammar.Symbols.{unit}
use Rattle.wgsl_model.specs.Grammar.Written.{written}
use Rattle.wgsl_theory_reread.specs.CanonicalUnits.{canonical}
use Rattle.wgsl_theory_templates.proofs.Lexed.LexedAlong.{Along}
use Rattle.wgsl_theory_printed.proofs.Fits.FittingUnits.{IsSoundUnit, sound_utf8, sound_along}
use Rattle.wgsl_theory_printed.proofs.Sound.Scanned.{tokens_scanned}
use Rattle.wgsl_theory_reread.proofs.Gives.{Given}
use Rattle.wgsl_theory_printed.proofs.Sound.SoundRules.{IsFromText, Sound}
use Rattle.wgsl_theory_printed.proofs.Sound.RuleTerms.{rules}

-- a module that a text derives
unit_sound : (source : List ℕ) (u : TranslationUnit) → IsUnit source u → IsSoundUnit u
unit_sound source u (ts, tokens, d) =
    (least checking written (Given IsFromText Sound) (λ n v xs ys m. (rules n).sound v xs ys m) unit
    u ts [] d (tokens_scanned (width source) source ts finished tokens)).1

-- its printed text
pub unit_utf8 : (source : List ℕ) (u : TranslationUnit) → IsUnit source u → IsUtf8 (print_unit u)
unit_utf8 source u h = sound_utf8 u (unit_sound source u h)

pub unit_along : (source : List ℕ) (u : TranslationUnit) → IsUnit source u → Along (canonical u) (chars (print_unit u))
unit_along source u h = sound_along u (unit_sound source u h)
