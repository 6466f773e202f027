use Rattle.std.proofs.Common.{◌≡◌, ◌∷◌, ◌||◌, Bool, true, false, cond, sym, ap, ap₂, ◌∙◌}
use Rattle.wgsl_model_tidy.specs.Roles.{Role}
use Rattle.wgsl_model_tidy.specs.Joints.{is_between_items}
use Rattle.wgsl_model_tidy.specs.LaidOut.{begins_in_operands, begins_filled, begins_assigned}
use Rattle.wgsl_format_layout.specs.View.{role_view}
use Rattle.wgsl_format_layout.specs.Outputs.{layout_of}
use Rattle.wgsl_format_layout.specs.Spots.{spot_of}
use Rattle.wgsl_format_layout.proofs.Following.{stands}
use Rattle.wgsl_format_layout.proofs.output.Output.begins_line.Goals as goal

pub returns-then-is_between_items : goal.returns-then-is_between_items
returns-then-is_between_items c n t ts f =
    let o = c.args.self.now in
    let s = stands _ o.end c.args.place c.args.tokens.now n t ts c.requires.place f in
    let last = role_view o.state.last in
    let items : is_between_items last t.role ≡ true =
    ap (is_between_items last) (sym s.token.role) ∙ sym c.if-is_between_items.ensures in
    let spot = spot_of o (t ∷ ts) in
    let operands = begins_in_operands o.state.operands t.role t.binds || begins_assigned (layout_of o) spot t.level in
    c.begins_filled.ensures n (t ∷ ts) f ∙ ap (begins_filled (layout_of o) spot) (sym s.level)
    ∙ sym (ap (λ (b : Bool). cond b (begins_filled (layout_of o) spot t.level) operands) items)

pub returns : goal.returns
returns c n t ts f =
    let o = c.args.self.now in
    let s = stands _ o.end c.args.place c.args.tokens.now n t ts c.requires.place f in
    let last = role_view o.state.last in
    let items : is_between_items last t.role ≡ false =
    ap (is_between_items last) (sym s.token.role) ∙ sym c.if-is_between_items.ensures in
    let spot = spot_of o (t ∷ ts) in
    let filled = begins_filled (layout_of o) spot t.level in
    let assigned = begins_assigned (layout_of o) spot t.level in
    let begins : begins_in_operands o.state.operands t.role t.binds ≡ false =
    ap₂ (λ (r : Role) n. begins_in_operands o.state.operands r n) (sym s.token.role) (sym s.token.binds)
    ∙ sym c.if-begins_line.ensures in
    c.begins_assigned.ensures n (t ∷ ts) f ∙ ap (begins_assigned (layout_of o) spot) (sym s.level)
    ∙ sym (ap (λ (b : Bool). b || assigned) begins)
    ∙ sym (ap (λ (b : Bool). cond b filled (begins_in_operands o.state.operands t.role t.binds || assigned)) items)
