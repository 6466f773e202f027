use Rattle.std.proofs.Common.{◌∙◌, ◌||◌, ap, sym}
use Rattle.std.specs.List.{list_any}
use Rattle.std.proofs.lemmas.List.{take_all}
use Rattle.std.proofs.lemmas.List.Folds.{list_any_more}
use Rattle.wgsl_references.specs.References.{is_declaration}
use Rattle.wgsl_rename.proofs.target.first_declaration.Goals as goal

pub referents-preserved : goal.referents-preserved
referents-preserved c = λ n.
    list_any_more (is_declaration n) c.args.referents.now c.referents.referent-index _ c.referents-test.true
    ∙ (λ i. c.referents.invariant n i || is_declaration n (c.in_default.is i))

pub returns : goal.returns
returns c = λ n. ap (list_any (is_declaration n))
    (sym (take_all c.referents.referent-index c.args.referents.now c.referents-test.false)) ∙ c.referents.invariant n
