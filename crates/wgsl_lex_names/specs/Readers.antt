-- What a reader adds to what happened before.
use Rattle.std.specs.Prelude.{◌≡◌, ◌++◌, List, map}
use Rattle.wgsl_model_places.specs.Roles.{Event}
use Rattle.wgsl_model_places.specs.Items.{State}
use Rattle.wgsl_model_places.specs.Steps.{Step}
use Rattle.wgsl_lex_names.specs.declared.reader.Reader.{Reader}
use Rattle.wgsl_lex_names.specs.View.{event_view, state_view}

abbrev pub happened : Reader → List Event
happened reader = map event_view reader.events.items

-- these events happen, and the same is known
pub record Adds (before : Reader) (more : List Event) (after : Reader) : Type 0 where
  pub events : happened after ≡ happened before ++ more
  pub state : after.state ≡ before.state

-- what a step says happens, and is known then
pub record Passes (before : Reader) (step : State → Step) (after : Reader) : Type 0 where
  pub events : happened after ≡ happened before ++ (step (state_view before.state)).0
  pub state : state_view after.state ≡ (step (state_view before.state)).1
