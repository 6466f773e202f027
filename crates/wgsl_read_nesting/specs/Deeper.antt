-- Where a text first nests deeper than a number of levels.
use Rattle.std.specs.Prelude.{◌≡◌, ◌≤◌, ◌<◌, ℕ, Bool, nat_lt, List, [], ◌∷◌, ◌++◌, length, Option, Some, None, if◌then◌else◌}
use Rattle.grammar.specs.Tokens.{Token}
use Rattle.grammar.specs.Tokens as plain
use Rattle.wgsl_model.specs.Faults.Kinds.{span_of_token}
use Rattle.wgsl_read_nesting.specs.declared.open.Open.{Open}
use Rattle.wgsl_read_nesting.specs.Nesting.{nesting, open_after, is_operand_end}

-- the tokens up to this one nest deeper than a number of levels, and those before it do not; or the
-- tokens do not
abbrev pub IsFirstDeeper : ℕ → List Token → Option plain.Span → Type 0
IsFirstDeeper depth ts None = nesting ts ≤ depth
IsFirstDeeper depth ts (Some span) = (before following : List Token) × (t : Token)
    × (ts ≡ before ++ t ∷ following) × (span ≡ span_of_token t)
    × (nesting before ≤ depth) × (depth < nesting (before ++ t ∷ []))

-- the first of some tokens after which more than a number are open, where so much is open before
-- them
abbrev pub first_deeper : ℕ → Bool → List Open → List Token → Option Token
first_deeper depth after_operand opened [] = None
first_deeper depth after_operand opened (t ∷ ts) =
    if nat_lt depth (length (open_after after_operand t.class opened)) then Some t
    else first_deeper depth (is_operand_end t.class) (open_after after_operand t.class opened) ts
