-- One piece more.
use Rattle.std.proofs.Common.{◌≡◌, ◌+◌, suc, arith, ◌∷◌, ◌++◌, [], ap, sym, length, take, get_or, ◌∙◌}
use Rattle.std.proofs.Math.Seq.{take-suc}
use Rattle.wgsl_lex_token.specs.View.{class_of_kind}
use Rattle.wgsl_lex_templates.specs.declared.kept.Piece.TheVariants.{Token}
use Rattle.wgsl_lex_templates.proofs.Readings.Pieces.{token_held, one_more, no_shorter}
use Rattle.wgsl_lex_templates.proofs.Readings.Pushes.{pushed}
use Rattle.wgsl_lex_templates.proofs.kept.ReadKinds.push_all.Goals as goal

pub loop-kind-preserved : goal.loop-kind-preserved
loop-kind-preserved c =
    let first = c.args.self.now.pieces.items in
    let ps = c.loop-kind.self.pieces.items in
    let now = c.push.new.self.pieces.items in
    let kinds = c.args.kinds.now in
    let i = c.loop-kind.kind-index in
    let next : i + 1 ≡ suc i = omega arith in
    let kind = get_or kinds i _ in
    record {
      more = one_more first ps now (Token kind) c.in_ok-push.ensures c.loop-kind.invariant.more;
      held = (token_held ps now kind (length first) c.in_ok-push.ensures
          (no_shorter first ps c.loop-kind.invariant.more)).0
          ∙ ap (λ x. x ++ class_of_kind kind ∷ []) c.loop-kind.invariant.held
          ∙ sym (pushed (take i kinds) (take (i + 1) kinds) kind
          (ap (λ n. take n kinds) next ∙ take-suc kinds i _ c.loop-kind-test.true));
    }
