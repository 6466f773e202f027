use Rattle.std.proofs.Common.{ℕ, List, ◌∙◌, sym, ap, Some}
use Rattle.std.proofs.lemmas.Option.{slice_get-map}
use Rattle.std.specs.Option.{option_map}
use Rattle.wgsl_tree_renamed.specs.NewNames.{pair_view, pairs}
use Rattle.wgsl_tree_renamed.proofs.new_names.NewNames.get.Goals as goal
use denote.Ref.{Bor}

pub returns-in_err-pair : goal.returns-in_err-pair
unfolding pairs
returns-in_err-pair c =
    ap (option_map (λ (p : Bor (List ℕ) × Bor (List ℕ)). (p.0.now, p.1.now))) c.from_residual.ensures
    ∙ ap (option_map pair_view) c.in_err-pair.ensures.entry
    ∙ sym (slice_get-map pair_view c.args.self.now.names.entries c.args.index)

pub returns : goal.returns
unfolding pairs
returns c =
    (λ i. Some (c.as_str.ensures.value i, c.as_str-2.ensures.value i))
    ∙ ap (option_map pair_view) c.in_ok-pair.ensures.entry
    ∙ sym (slice_get-map pair_view c.args.self.now.names.entries c.args.index)
