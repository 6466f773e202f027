-- What is known of what tokens do, as the definitions see it.
use Rattle.std.specs.Prelude.{◌≡◌, map}
use Rattle.wgsl_model_tidy.specs.Open as plain
use Rattle.wgsl_format_layout.specs.View.{role_view}
use Rattle.wgsl_format_layout.specs.OpenKinds.{open_kind}
use Rattle.wgsl_format_layout.specs.declared.context.Context.{Context}

-- a state in which all brackets are in one line is known so, but for depths
pub record IsContext (context : Context) (state : plain.LayoutState) : Type 0 where
  pub opened : map open_kind state.opened ≡ context.opened
  pub last : state.last ≡ role_view context.last
  pub structure : state.structure ≡ context.structure
