-- What functions returned, and what is read.
use Rattle.std.specs.Prelude.{◌≡◌, ◌<◌, ◌≤◌, ℕ, List, [], ◌∷◌, length, Result, Ok, Err, OnOk}
use Rattle.grammar.specs.Tokens.{Token}
use Rattle.grammar.specs.States.{State, Read, Read.done, Read.stop, Stop, Stop.unexpected, Stop.ended, Stop.faulty, Stop.never}
use Rattle.wgsl_span.specs.declared.Span.{Span}
use Rattle.wgsl_error.specs.View.{fault_view}
use Rattle.wgsl_lex_token.specs.Placed.{placed_view}
use Rattle.wgsl_read_cursor.specs.Tokens.{rest_of}
use Rattle.wgsl_read_cursor.specs.declared.cursor.Cursor.{Cursor}
use Rattle.wgsl_read_cursor.specs.declared.fault.Refusal.{Refusal}
use Rattle.wgsl_read_cursor.specs.declared.fault.Refusal.TheVariants as refusal
use Rattle.wgsl_read_cursor.specs.declared.fault.Fault.{Fault}
use Rattle.wgsl_read_cursor.specs.declared.fault.Fault.TheVariants as fault

-- the tokens that are left, and where the last one that was taken ended
abbrev pub state : Cursor → State
state c = record { end = c.end; rest = rest_of c.tokens }

-- the first of some tokens, whatever it is, where the last one that was taken ended at a place
abbrev pub first_token : ℕ → List Token → Read Token
first_token end [] = stop (ended end)
first_token end (t ∷ ts) = done t (record { end = t.end; rest = ts })

-- the next token, whatever it is
unfoldable pub token_at : State → Read Token
token_at s = first_token s.end s.rest

-- from a place to the end of the last token that was taken
abbrev pub span_back : ℕ → State → Span
span_back start s = record { start = start; end = s.end }

-- what was refused
unfoldable pub refusal_stop : Refusal → Stop
refusal_stop (refusal.UnexpectedToken t expected) = unexpected (placed_view t)
refusal_stop (refusal.UnexpectedEnd place expected) = ended place
refusal_stop (refusal.Checked e) = faulty (fault_view e)

-- why reading stopped
abbrev pub stop_of : Fault → Stop
stop_of (fault.Refused refusal) = refusal_stop refusal.value
stop_of fault.OutOfMemory = never

-- a fault says why reading stopped, unless memory ran out
abbrev pub Tells : Fault → Stop → Type 0
Tells fault.OutOfMemory s = Unit {0}
Tells e s = stop_of e ≡ s

-- reading stopped so, unless memory ran out
abbrev pub Fails : {Y : Type 0} → Fault → Read Y → Type 0
Fails fault.OutOfMemory read = Unit {0}
Fails e read = read ≡ stop (stop_of e)

-- What a function returned, seen by view, with the state that it left, is what is read, unless
-- memory ran out.
abbrev pub Gives : {X Y : Type 0} → (X → Y) → Result X Fault → State → Read Y → Type 0
Gives view (Ok x) left read = read ≡ done (view x) left
Gives view (Err e) left read = Fails e read

-- What a function returned, seen by view, between these places, is what a rule reads there, and is
-- read of one token or more.
pub record Parses {X Y : Type 0} (view : X → Y) (result : Result X Fault) (before after : Cursor)
    (read : State → Read Y) : Type 0 where
  pub value : Gives view result (state after) (read (state before))
  pub shorter : OnOk result (length (state after).rest < length (state before).rest)

-- The same of a rule that may read no token.
pub record ParsesNullable {X Y : Type 0} (view : X → Y) (result : Result X Fault)
    (before after : Cursor) (read : State → Read Y) : Type 0 where
  pub value : Gives view result (state after) (read (state before))
  pub shorter : OnOk result (length (state after).rest ≤ length (state before).rest)
