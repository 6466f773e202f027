use Rattle.std.proofs.Common.{ℕ, List, ◌∙◌, ap, Some, string_bytes}
use Rattle.std.specs.Option.{option_map}
use Rattle.wgsl_tree_renamed.specs.NewNames.{pairs}
use Rattle.wgsl_tree_renamed.proofs.Tables.{looked_up}
use Rattle.wgsl_tree_renamed.proofs.new_names.NewNames.new_name.Goals as goal
use denote.Ref.{Bor}

pub returns-in_err-get : goal.returns-in_err-get
unfolding pairs
returns-in_err-get c =
    ap (option_map (λ (name : Bor (List ℕ)). name.now)) c.from_residual.ensures
    ∙ ap (option_map string_bytes) c.in_err-get.ensures.value
    ∙ looked_up c.args.self.now.names.entries c.args.name.now

pub returns : goal.returns
unfolding pairs
returns c =
    ap Some c.as_str.ensures.value
    ∙ ap (option_map string_bytes) c.in_ok-get.ensures.value
    ∙ looked_up c.args.self.now.names.entries c.args.name.now
