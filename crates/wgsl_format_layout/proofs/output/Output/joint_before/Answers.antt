use Rattle.std.proofs.Common.{◌≡◌, ◌∷◌, ◌&&◌, Bool, true, false, cond, refl, sym, ap, ap₂, ◌∙◌}
use Rattle.std.proofs.lemmas.Bool.{true≢false}
use Rattle.wgsl_model_tidy.specs.Roles.{Role}
use Rattle.wgsl_model_tidy.specs.Joints.{line, joint}
use Rattle.wgsl_model_tidy.specs.Open.{Enclosing, enclosing}
use Rattle.wgsl_model_tidy.specs.LaidOut.{is_token, may_break, begins_line}
use Rattle.wgsl_format_layout.specs.View.{role_view}
use Rattle.wgsl_format_layout.specs.Gaps.{last_view}
use Rattle.wgsl_format_layout.specs.Outputs.{layout_of}
use Rattle.wgsl_format_layout.specs.Spots.{spot_of}
use Rattle.wgsl_format_layout.proofs.Following.{stands}
use Rattle.wgsl_format_layout.proofs.output.Output.joint_before.Goals as goal
use Rattle.wgsl_format_layout.proofs.output.Output.joint_before.Goals.{else-may_begin_line-via-then-may_begin_line+else-begins_line, else-may_begin_line-via-else-may_begin_line}

-- no line begins, by either test
by_first : (a b c : Bool) → (a && b) ≡ false → (a && (b && c)) ≡ false
by_first false b c e = refl
by_first true false c e = refl
by_first true true c e = absurd (true≢false e)

by_second : (a b c : Bool) → c ≡ false → (a && (b && c)) ≡ false
by_second false b c e = refl
by_second true false c e = refl
by_second true true c e = e

pub returns : goal.returns
returns c n t ts f =
    let o = c.args.self.now in
    let s = stands _ o.end c.args.place c.args.tokens.now n t ts c.requires.place f in
    let opened = enclosing o.state.opened in
    let begins = begins_line (layout_of o) (spot_of o (t ∷ ts)) t.role in
    let none : (is_token (last_view o.last) && (may_break opened && begins)) ≡ false =
    elim c.else-may_begin_line.branch [
      | else-may_begin_line-via-then-may_begin_line+else-begins_line w ↦
          by_second (is_token (last_view o.last)) (may_break opened) begins
          (sym (w.begins_line.ensures n t ts f) ∙ w.if-begins_line.false)
      | else-may_begin_line-via-else-may_begin_line w ↦
          by_first (is_token (last_view o.last)) (may_break opened) begins (sym w.if-may_begin_line.ensures)
    ] in
    c.joint_of.ensures ∙ ap₂ (λ (e : Enclosing) (r : Role). joint e (role_view o.state.last) r)
    c.enclosing-enclosing.ensures s.token.role
    ∙ sym (ap (λ (b : Bool). cond b line (joint opened (role_view o.state.last) t.role)) none)
