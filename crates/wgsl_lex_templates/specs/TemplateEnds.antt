-- Where the template list ends whose `<` is before a text.
use Rattle.std.specs.Prelude.{◌≡◌, ℕ, Bool, true, List, chars, Option, Some, None}
use Rattle.std.specs.Borrow.{Bor}
use Rattle.grammar.specs.Tokens.{Token}
use Rattle.wgsl_model.specs.Tokens.ClassTable.{SymLessThan}
use Rattle.wgsl_model.specs.Tokens.Templates.{NoTemplate, Template}

-- a list begins the text, and this text is after it; or none does
abbrev pub SkipsList : ℕ → List ℕ → Option (Bor (List ℕ)) → Type 0
SkipsList total text None = NoTemplate (Template total) text
SkipsList total text (Some rest) = (ts : List Token) × Template total text ts (chars rest.now)

-- the same where a token of a class begins the text, which begins a list only if it is a `<` after
-- a word
abbrev pub SkipsAfter : Bool → ℕ → ℕ → List ℕ → Option (Bor (List ℕ)) → Type 0
SkipsAfter word class total text None = word ≡ true → class ≡ SymLessThan → NoTemplate (Template total) text
SkipsAfter word class total text (Some rest) = (word ≡ true) × (class ≡ SymLessThan) × SkipsList total text (Some rest)
