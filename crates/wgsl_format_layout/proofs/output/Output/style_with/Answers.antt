use Rattle.std.proofs.Common.{◌≡◌, true, cond, Bool, sym, ap, ◌∙◌}
use Rattle.std.proofs.lemmas.Result.{IfOk-weaker}
use Rattle.wgsl_model_tidy.specs.Roles.{opens_bracket}
use Rattle.wgsl_model_tidy.specs.Open.{together, parted_at}
use Rattle.wgsl_model_tidy.specs.LaidOut.{style_of}
use Rattle.wgsl_format_layout.specs.Outputs.{layout_of}
use Rattle.wgsl_format_layout.proofs.output.Output.style_with.Goals as goal

pub returns-then-opens_bracket : goal.returns-then-opens_bracket
returns-then-opens_bracket c =
    let old = c.args.self.now in
    let limit = parted_at old.state.operands in
    let column = old.text.line.column in
    IfOk-weaker c.style_of.result _ _ (λ style h n t ts p e.
    (let opens : opens_bracket t.role ≡ true = ap opens_bracket (sym e) ∙ sym c.if-opens_bracket.ensures in
    h n t ts p opens
    ∙ ap (λ k. style_of (layout_of old) k limit c.args.depth column ts) (sym p.here.order.0)
    ∙ ap (λ (b : Bool). cond b (style_of (layout_of old) t.level limit c.args.depth column ts) together) (sym opens)))
    c.style_of.ensures
