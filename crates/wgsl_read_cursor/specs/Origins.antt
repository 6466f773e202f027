-- The tokens of a text, or those that an iterator gave.
use Rattle.std.specs.Prelude.{◌≡◌, ℕ, ⊤, List, [], chars, Result, Ok, Err}
use Rattle.grammar.specs.Tokens.{Token, last_end}
use Rattle.grammar.specs.Endings.{Ending}
use Rattle.grammar.specs.States.{State, start_state}
use Rattle.wgsl_model.specs.Tokens.TokenList.{IsTokenList}
use Rattle.wgsl_lexer.specs.Placed.{ending_view}
use Rattle.wgsl_read_cursor.specs.declared.fault.Refusal.{Refusal}
use Rattle.wgsl_read_cursor.specs.declared.fault.Refusal.TheVariants as refusal
use Rattle.wgsl_read_cursor.specs.declared.fault.Fault.{Fault}
use Rattle.wgsl_read_cursor.specs.declared.fault.Fault.TheVariants as fault
use Rattle.wgsl_read_cursor.specs.Reading.{state}
use Rattle.wgsl_read_cursor.specs.declared.origin.Origin.{Origin}
use Rattle.wgsl_read_cursor.specs.declared.origin.Origin.TheVariants as origin
use Rattle.wgsl_read_cursor.specs.declared.source.TokenSource.{TokenSource}
use Rattle.wgsl_read_cursor.specs.Sources.{tokens_to_read}

-- these are the tokens, and so they end
abbrev pub AreOf : Origin → List Token → Ending → Type 0
AreOf (origin.Text source) ts ending = IsTokenList (chars source.now) ts ending
AreOf (origin.Given error) ts ending = ending ≡ ending_view error

-- a source has these tokens, which end so, to be read
abbrev pub IsSourceOf : TokenSource → List Token → Ending → Type 0
IsSourceOf source ts ending = (state source.tokens ≡ start_state (tokens_to_read ts ending))
    × AreOf source.origin ts ending

-- the last token of a text ends at a place
abbrev pub IsLastOf : Origin → ℕ → List Token → Type 0
IsLastOf (origin.Text source) place ts = place ≡ last_end 0 ts
IsLastOf (origin.Given error) place ts = ⊤

-- where a text ends too early, the last token that was taken is the last token of the text
abbrev pub IsRefusedOf : Origin → Refusal → List Token → Type 0
IsRefusedOf origin (refusal.UnexpectedToken t expected) ts = ⊤
IsRefusedOf origin (refusal.UnexpectedEnd place expected) ts = IsLastOf origin place ts
IsRefusedOf origin (refusal.Checked e) ts = ⊤

-- the same of why tokens could not be read
abbrev pub IsFaultOf : Origin → Fault → List Token → Type 0
IsFaultOf origin (fault.Refused refusal) ts = IsRefusedOf origin refusal.value ts
IsFaultOf origin fault.OutOfMemory ts = ⊤

-- where a value was read after which no token is left, or a text ends too early, the last token
-- that was taken is the last token of the text
abbrev pub IsReadTo : {T : Type 0} → Origin → Result T Fault → State → List Token → Type 0
IsReadTo origin (Ok v) left ts = left.rest ≡ [] → IsLastOf origin left.end ts
IsReadTo origin (Err x) left ts = IsFaultOf origin x ts
