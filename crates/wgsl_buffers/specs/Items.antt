-- Tokens and places as they are written to a buffer.
use Rattle.std.specs.Prelude.{◌≡◌, ℕ, zero, suc, ◌-◌, ◌^◌, min, List, [], ◌∷◌, ◌++◌, length, take, map, Option, Some, None}
use Rattle.grammar.specs.Tokens.{Token, Span}
use Rattle.wgsl_model.specs.Faults.Kinds.{invalid_token_kind}
use Rattle.wgsl_model.specs.Tokens.Places.{width}
use Rattle.wgsl_span.specs.declared.Span as span
use Rattle.wgsl_lex_templates.specs.Lists.{AreLists}
use Rattle.wgsl_lex_templates.specs.Spans.{end_from}
use Rattle.wgsl_buffers.specs.declared.answer.Answer.{Answer}
use Rattle.wgsl_buffers.specs.declared.lists.Place.{Place}
use Rattle.wgsl_buffers.specs.declared.tokens.PlacedKind.{PlacedKind}

-- a number of items, as it is counted: up to the greatest
abbrev pub count_of : ℕ → ℕ
count_of n = min n (2 ^ 64 - 1)

-- the buffer begins with these items, or holds the first of them where not all fit
abbrev pub HoldItems : {X Y : Type 0} → (X → Y) → List Y → List X → Type 0
HoldItems view items buffer = map view (take (length items) buffer) ≡ take (length buffer) items

-- these items are counted, and as many as fit are at the front of the buffer
pub record Stored {X Y : Type 0} (view : X → Y) (items : List Y) (buffer : List X) (n : ℕ) : Type 0 where
  pub counted : n ≡ count_of (length items)
  pub held : HoldItems view items buffer

-- the number of a kind, and a place
abbrev pub kind_and_place : PlacedKind → ℕ × ℕ × ℕ
kind_and_place p = (p.kind, p.start, p.end)

-- what is written of a token
abbrev pub item_of_token : Token → ℕ × ℕ × ℕ
item_of_token t = (t.class, t.start, t.end)

-- what is written of some tokens
abbrev pub token_items : List Token → List (ℕ × ℕ × ℕ)
token_items ts = map item_of_token ts

-- a number of tokens before text that is no token, and where that is
abbrev pub counted_to : ℕ → Span → Answer
counted_to n place = record { size = n; start = place.start; end = place.end; kind = invalid_token_kind; expected = 0 }

-- where something starts and ends
abbrev pub start_and_end : Place → ℕ × ℕ
start_and_end p = (p.start, p.end)

-- the template list that starts at a place, if one does
abbrev pub list_at : ℕ → Option ℕ → List (ℕ × ℕ)
list_at start None = []
list_at start (Some end) = (start, end) ∷ []

-- those that start before a place, in the order of their starts
abbrev pub lists_before : List span.Span → ℕ → List (ℕ × ℕ)
lists_before spans zero = []
lists_before spans (suc n) = lists_before spans n ++ list_at n (end_from spans n)

-- the places of the template lists of a text, in the order of their starts
abbrev pub ArePlaces : List ℕ → List (ℕ × ℕ) → Type 0
ArePlaces text places = (spans : List span.Span) × AreLists (width text) spans text
    × (places ≡ lists_before spans (width text))
