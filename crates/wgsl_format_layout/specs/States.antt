-- What is known after a token, as the definitions see it.
use Rattle.std.specs.Prelude.{ℕ, Bool, false, ◌==◌, not, if◌then◌else◌, List, ◌∷◌, drop}
use Rattle.wgsl_model_tidy.specs.Roles.{Role, binary, block_start, is, opens_bracket, closes, is_in_operand}
use Rattle.wgsl_model_tidy.specs.Open as plain
use Rattle.wgsl_format_layout.specs.View.{role_view}
use Rattle.wgsl_format_layout.specs.declared.state.LayoutState.{LayoutState}

abbrev pub state_view : LayoutState → plain.LayoutState
state_view s = record {
  opened = s.opened;
  operands = s.operands;
  line = s.line;
  last = role_view s.last;
  fresh = s.fresh;
  leading = s.leading;
  structure = false;
}

-- operands may begin after a token that does this and binds so
abbrev pub fresh_by : List plain.Operands → Role → ℕ → Bool
fresh_by operands right binds = if is right binary then binds == plain.parted_at operands else not (is_in_operand right)

-- what is open after a token, where blocks are one, and so are brackets
abbrev pub opened_by : plain.LayoutState → Role → plain.Style → plain.Opened
opened_by state right style =
    if is right block_start then (plain.block, plain.inner_depth state.opened) ∷ state.opened
    else if opens_bracket right then (plain.bracket style, state.line) ∷ state.opened
    else if closes right then drop 1 state.opened
    else state.opened

-- a state with that open, and in the operands that go on then
abbrev pub gone : plain.LayoutState → Role → plain.Style → plain.LayoutState
gone state right style = record state {
  opened = opened_by state right style;
  operands = plain.operands_after state.operands right;
}

-- the state after a token that does this, binds so and is this to what follows it
abbrev pub taken : plain.LayoutState → Role → ℕ → Role → plain.Style → plain.LayoutState
taken state right binds last style = record {
  opened = opened_by state right style;
  operands = plain.operands_after state.operands right;
  line = state.line;
  last = last;
  fresh = fresh_by state.operands right binds;
  leading = plain.leading_after state right;
  structure = false;
}
