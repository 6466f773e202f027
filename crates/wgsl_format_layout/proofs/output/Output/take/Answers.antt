use Rattle.std.proofs.Common.{◌∷◌, sym, ap, subst, ◌∙◌}
use Rattle.std.proofs.lemmas.Result.{IfOk-weaker}
use Rattle.wgsl_model_tidy.specs.LaidOut.{style_with}
use Rattle.wgsl_format_layout.specs.View.{role_view}
use Rattle.wgsl_format_layout.specs.Kinds.{style_view}
use Rattle.wgsl_format_layout.specs.States.{state_view}
use Rattle.wgsl_format_layout.specs.Layouts.{layout_view}
use Rattle.wgsl_format_layout.specs.Outputs.{layout_of}
use Rattle.wgsl_format_layout.specs.Spots.{IsPast}
use Rattle.wgsl_format_layout.specs.declared.text.Text.{Text}
use Rattle.wgsl_format_layout.specs.declared.marks.Mark.{Mark}
use Rattle.wgsl_format_layout.specs.declared.marks.MarkedToken.{MarkedToken}
use Rattle.wgsl_format_layout.proofs.Following.{stands}
use Rattle.wgsl_format_layout.proofs.Past.{first_is, past_at, past_by}
use Rattle.wgsl_format_layout.proofs.output.Output.take.Goals as goal

pub returns-clause-state : goal.returns-clause-state
returns-clause-state c =
    let old = c.args.self.now in
    let now = c.begin_operands.new.self in
    let layout = layout_of old in
    let column = old.text.line.column in
    IfOk-weaker c.take.result _ _ (λ _ h before n t ts m ms e f k.
    (let s = stands _ before c.args.place c.args.tokens.now n t ts c.requires.place f in
    let last = ap (λ (m : MarkedToken). role_view m.last)
    (first_is _ c.args.tokens.now c.args.place m ms c.requires.place e) in
    h ∙ past_by layout (state_view old.state) (state_view now.state) column t ts _ _ _ (role_view m.last)
    (style_view c.in_ok-style.style) (c.in_ok-begin_operands.ensures.begun n t ts
    (past_at _ before c.args.place c.args.tokens.now n t ts c.requires.place f k) s.token.role)
    s.token.role s.token.binds last
    (c.in_ok-style.ensures n t ts (subst (λ (e : Mark). IsPast e c.args.place c.args.tokens.now n t ts)
    (sym c.in_ok-begin_operands.ensures.end)
    (past_at _ before c.args.place c.args.tokens.now n t ts c.requires.place f k))
    s.token.role
    ∙ ap (λ (x : Text). style_with (layout_view x.line.layout) now.state.operands old.state.line x.line.column
    t.role (t ∷ ts)) c.in_ok-begin_operands.ensures.text)))
    c.take.ensures
