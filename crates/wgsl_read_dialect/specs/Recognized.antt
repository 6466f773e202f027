-- What a text is where it is recognized, and what is returned of its tokens in each dialect.
use Rattle.std.specs.Prelude.{◌≡◌, ◌⊎◌, ℕ, List, Result, Ok, Err}
use Rattle.grammar.specs.Tokens.{Token, Fault}
use Rattle.grammar.specs.Grammar.{Mode.checking, Derives, IsSentence}
use Rattle.grammar.specs.Endings.{Ending, Ending.finished}
use Rattle.wgsl_model.specs.Trees.Units.{TranslationUnit}
use Rattle.wgsl_model.specs.Grammar.Symbols.{Dialect, Dialect.parsed, Dialect.recognized, Symbol.unit}
use Rattle.wgsl_model.specs.Tokens.TokenList.{IsTokenList}
use Rattle.wgsl_model.specs.Grammar.Written.{written}
use Rattle.wgsl_model.specs.Grammar.Small.{small}
use Rattle.wgsl_model.specs.Faults.NamedFault.{IsNamedUnchecked, IsNamedSmall}
use Rattle.wgsl_error.specs.declared.Error.{Error}
use Rattle.wgsl_error.specs.View.{fault_view}
use Rattle.wgsl_read_cursor.specs.Answers.{IsOutOfMemory}

-- a text whose tokens are a unit of the dialect
abbrev pub IsRecognized : List ℕ → Type 0
IsRecognized source = (ts : List Token) × IsTokenList source ts finished
    × ((v : TranslationUnit) × Derives checking small unit v ts)

-- a text of which this fault is named
abbrev pub IsRefused : List ℕ → Fault → Type 0
IsRefused source x = (ts : List Token) × (ending : Ending) × IsTokenList source ts ending
    × IsNamedSmall unit ts ending x

-- tokens that are a unit of a dialect: where the whole language is read, whatever the checks say
abbrev pub AreUnit : Dialect → List Token → Type 0
AreUnit parsed ts = IsSentence written unit ts
AreUnit recognized ts = (v : TranslationUnit) × Derives checking small unit v ts

-- The tokens ended of themselves and are a unit of the dialect; or the fault is the one that is
-- named of them; or an allocation failed.
abbrev pub Recognized : Dialect → Result (Unit {0}) Error → List Token → Ending → Type 0
Recognized L (Ok u) ts ending = (ending ≡ finished) × AreUnit L ts
Recognized L (Err e) ts ending = IsOutOfMemory e ⊎ IsNamedUnchecked L unit ts ending (fault_view e)
