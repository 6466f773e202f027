-- Which texts are names.
use Rattle.std.specs.Prelude.{◌≡◌, ℕ, true, false, List, chars}
use Rattle.wgsl_model.specs.Tokens.ClassTable.{Ident, ReservedWord, is_keyword}
use Rattle.wgsl_model.specs.Tokens.Kind.{Kind, named}
use Rattle.wgsl_model.specs.Tokens.Raw.{none_left, raw, token}
use Rattle.wgsl_model_names.specs.RenamedTokens.{begins_with_underscores}
use Rattle.wgsl_rename.specs.declared.error.Refusal.{Refusal}
use Rattle.wgsl_rename.specs.declared.error.Refusal.TheVariants.{NoIdentifier, Keyword, Reserved}

-- the only token of a text is of this kind
abbrev pub IsOnly : Kind → List ℕ → Type 0
IsOnly kind text = (from after : List ℕ) × (raw (chars text) ≡ token kind from after) × (raw after ≡ none_left)

-- a text is an identifier: its only token is one of this name, and it does not begin with two `_`
-- (WGSL, "Identifiers")
abbrev pub IsName : List ℕ → Type 0
IsName text = IsOnly (named Ident text) text × (begins_with_underscores text ≡ false)

-- it is none, for a reason
abbrev pub IsNoName : List ℕ → Refusal → Type 0
IsNoName text NoIdentifier = ¬ (IsName text)
IsNoName text Keyword = (kind : Kind) × IsOnly kind text × (is_keyword kind.class ≡ true)
IsNoName text Reserved = (word : List ℕ) × IsOnly (named ReservedWord word) text
IsNoName text other = ⊥
