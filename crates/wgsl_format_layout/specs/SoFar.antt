-- The tokens of a source that are read up to a place.
use Rattle.std.specs.Prelude.{◌≡◌, ℕ, zero, suc, ◌+◌, ◌-◌, ◌≤◌, List, [], ◌∷◌, ◌++◌, drop, length}
use Rattle.grammar.specs.Tokens.{Token}
use Rattle.wgsl_model_tidy.specs.Open.{LayoutState}
use Rattle.wgsl_model_tidy.specs.Ahead.{Ahead, content}
use Rattle.wgsl_lexer.specs.TextTokens.{tokens_left}
use Rattle.wgsl_format_layout.specs.Contexts.{IsContext}
use Rattle.wgsl_format_layout.specs.Marks.{AreAhead}
use Rattle.wgsl_format_layout.specs.Closing.{first_or, with_closes}
use Rattle.wgsl_format_layout.specs.Reads.{AreRead}
use Rattle.wgsl_format_layout.specs.Windows.{AreClosed}
use Rattle.wgsl_format_layout.specs.Reading.{ahead_left, last_end}
use Rattle.wgsl_format_layout.specs.declared.marks.Mark.{Mark}
use Rattle.wgsl_format_layout.specs.declared.marks.MarkedToken.{MarkedToken}
use Rattle.wgsl_format_layout.specs.declared.marks.Marks.{Marks}

-- of these tokens, from a place on, those at these places or at the end close what is open, the
-- innermost of n first
abbrev pub AreClosers : ℕ → ℕ → ℕ → List Ahead → List ℕ → Type 0
AreClosers end zero place ts cs = Unit {0}
AreClosers end (suc n) place ts cs = (first_or end cs ≡ place + length (content (suc n) ts))
    × AreClosers end n place ts (drop 1 cs)

-- so much at least is open before each of these
abbrev pub AreFrom : ℕ → List Ahead → Type 0
AreFrom n [] = Unit {0}
AreFrom n (t ∷ ts) = (n ≤ t.level) × AreFrom n ts

-- these tokens are read, and these are left; the last one ends here
abbrev pub IsWhole : Marks → LayoutState → List MarkedToken → List Ahead → ℕ → LayoutState → List Token → Mark → Type 0
IsWhole first before ms ts to after left last =
    AreAhead first.end 0 ms ts
    × AreRead first.source.now first.byte before (tokens_left first.left) ms to after left
    × (last_end first.end ms ≡ last)

-- tokens are read, with others after them, which close what is open at these places
abbrev pub GoesOn : Marks → LayoutState → Marks → LayoutState → List Ahead → Type 0
GoesOn first before now state near = (end : ℕ) (closes : List ℕ) (ms : List MarkedToken) (ts : List Ahead)
    (to : ℕ) (after : LayoutState) (left : List Token)
    → AreClosers end (length state.opened) (length now.tokens.items) ts closes
    → AreAhead now.end (length now.tokens.items) ms ts
    → AreRead first.source.now now.byte state (tokens_left now.left) ms to after left
    → IsWhole first before (with_closes end now.tokens.items now.places closes ++ ms) (near ++ ts) to after left
    (last_end now.end ms)

-- tokens are read after a state up to a place
pub record SoFar (first : Marks) (before : LayoutState) (now : Marks) : Type 0 where
  pub state : LayoutState
  pub near : List Ahead
  pub source : now.source.now ≡ first.source.now
  pub layout : now.layout ≡ first.layout
  pub context : IsContext now.context state
  pub ahead : ahead_left first before ≡ near ++ ahead_left now state
  pub deep : length now.places ≤ length state.opened
  pub from : AreFrom (length state.opened - length now.places) near
  pub goes_on : GoesOn first before now state near

-- they are read up to the end of a line, or to the end of the source
pub record HasStopped (first : Marks) (before : LayoutState) (now : Marks) : Type 0 where
  pub so_far : SoFar first before now
  pub closed : AreClosed so_far.near (ahead_left now so_far.state)
  pub none : now.tokens.items ≡ [] → tokens_left now.left ≡ []
