-- Tokens of which some identifiers are renamed, where they are.
use Rattle.std.specs.Prelude.{◌≡◌, ℕ, Bool, false, ◌==◌, ◌&&◌, List, [], ◌∷◌, ◌⊎◌, codes, chars}
use Rattle.grammar.specs.Tokens.{Token, Payload.name}
use Rattle.grammar.specs.Endings.{Ending.finished}
use Rattle.wgsl_model.specs.Tokens.ClassTable.{Ident}
use Rattle.wgsl_model.specs.Tokens.TokenList.{IsTokenList}
use Rattle.wgsl_model.specs.Grammar.TokenValues.{text_of}
use Rattle.wgsl_model_names.specs.Renamed.{Renaming}

-- an identifier, renamed
abbrev pub renamed_token : Renaming → Token → Token
renamed_token f t = record t { payload = name (f (text_of t)) }

-- the same token, or an identifier that is renamed
abbrev pub IsRenamedToken : Renaming → Token → Token → Type 0
IsRenamedToken f t u = (u ≡ t) ⊎ ((t.class ≡ Ident) × (u ≡ renamed_token f t))

-- each token is the same or is renamed
abbrev pub AreRenamedTokens : Renaming → List Token → List Token → Type 0
AreRenamedTokens f [] [] = Unit {0}
AreRenamedTokens f (t ∷ ts) (u ∷ us) = IsRenamedToken f t u × AreRenamedTokens f ts us
AreRenamedTokens f ts us = ⊥

-- `_` keeps its name
abbrev pub FixesUnderscore : Renaming → Type 0
FixesUnderscore f = f (codes "_") ≡ codes "_"

-- the first two bytes are `_`
abbrev pub begins_with_underscores : List ℕ → Bool
begins_with_underscores (b ∷ (c ∷ bytes)) = b == 95 && c == 95
begins_with_underscores bytes = false

-- the text is an identifier: its only token is an identifier of this name, and it does not begin
-- with two `_` (WGSL, "Identifiers")
abbrev pub IsIdentifier : List ℕ → Type 0
IsIdentifier text = (t : Token) × IsTokenList (chars text) (t ∷ []) finished × (t.class ≡ Ident)
    × (t.payload ≡ name text) × (begins_with_underscores text ≡ false)

-- each name stays or becomes an identifier
abbrev pub GivesIdentifiers : Renaming → Type 0
GivesIdentifiers f = (x : List ℕ) → (f x ≡ x) ⊎ IsIdentifier (f x)
