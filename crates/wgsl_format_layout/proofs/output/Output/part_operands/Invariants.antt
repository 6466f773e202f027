use Rattle.std.proofs.Common.{ℕ, ◌≡◌, ◌-◌, suc, false, List}
use Rattle.wgsl_model_tidy.specs.Roles.{closes}
use Rattle.wgsl_model_tidy.specs.Open.{inner_depth}
use Rattle.wgsl_model_tidy.specs.Ahead.{Ahead}
use Rattle.wgsl_format_layout.specs.States.{state_view}
use Rattle.wgsl_format_layout.specs.Outputs.{layout_of}
use Rattle.wgsl_format_layout.specs.Spots.{IsPast}
use Rattle.wgsl_format_layout.proofs.Parting.{IsParting}
use Rattle.wgsl_format_layout.proofs.output.Output.part_operands.Given as goal

abbrev pub invariant-operands : goal.invariant-operands
invariant-operands l = record {
  text : l.self.text ≡ l.fn.self.text;
  last : l.self.last ≡ l.fn.self.last;
  end : l.self.end ≡ l.fn.self.end;
  state : state_view l.self.state ≡ record (state_view l.fn.self.state) { operands = l.self.state.operands };
  parted : (n : ℕ) (t : Ahead) (ts : List Ahead) → IsPast l.fn.self.end l.place l.tokens n t ts → closes t.role ≡ false
      → IsParting (layout_of l.fn.self) n (inner_depth l.fn.self.state.opened)
      (suc l.depth - inner_depth l.fn.self.state.opened) l.fn.self.text.line.column ts
      l.fn.self.state.operands l._parted l.more l.self.state.operands;
}
