-- Tokens whose words have the classes of their spellings, as those of a text do.
use Rattle.std.proofs.Common.{◌≡◌, ℕ, true, false, List, [], ◌∷◌}
use Rattle.std.specs.Prelude.{◌==◌}
use Rattle.grammar.specs.Tokens.{Token}
use Rattle.grammar.specs.Grammar.{is_among}
use Rattle.wgsl_model.specs.Tokens.ClassTable.{Ident, ReservedWord}
use Rattle.wgsl_model.specs.Tokens.Raw.{kind_of_word}
use Rattle.wgsl_model.specs.Grammar.TokenValues.{text_of}
use Rattle.wgsl_model.specs.Grammar.Written.{keyword_classes}
use Rattle.wgsl_theory_grammar.proofs.Faults.Avoids.{AllOf}
use Rattle.wgsl_theory_reread.specs.CanonicalUnits.{without_place}

-- no byte of a text is `.`
abbrev pub NoPeriod : List ℕ → Type 0
NoPeriod [] = Unit {0}
NoPeriod (c ∷ cs) = ((c == 46) ≡ false) × NoPeriod cs

-- an identifier, a reserved word or a keyword is the token that its word is, and its word has no
-- `.`
abbrev pub IsWord : Token → Type 0
IsWord t = is_among t.class (Ident ∷ ReservedWord ∷ keyword_classes) ≡ true
    → (without_place t ≡ kind_of_word (text_of t)) × NoPeriod (text_of t)

-- all tokens of a list are so
abbrev pub AllWords : List Token → Type 0
AllWords = AllOf IsWord
