use Rattle.std.proofs.Common.{ℕ, List, ◌∙◌, ap}
use Rattle.wgsl_model.specs.Tokens.Words.{look_up}
use Rattle.wgsl_model_minify.specs.NewNames.{new_or}
use Rattle.wgsl_tree_renamed.specs.NewNames.{pairs, renaming_by}
use Rattle.wgsl_tree_renamed.proofs.Tables.{new_or_own}
use Rattle.wgsl_tree_renamed.proofs.ident.renamed_ident.Goals as goal
use denote.Ref.{Bor}

pub returns : goal.returns
unfolding renaming_by
returns c =
    let found = c.new_name.ensures ∙ ap (look_up (pairs c.args.names.now)) c.name.ensures in
    c.new.ensures ∙ c.in_ok-from_str.ensures.ok
    ∙ ap (λ (name : Bor (List ℕ)). name.now) c.unwrap_or-name.ensures
    ∙ new_or_own c.new_name.result c.name-2.result
    ∙ (λ i. new_or (c.name-2.ensures i) (found i))
