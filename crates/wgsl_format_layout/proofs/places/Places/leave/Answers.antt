use Rattle.std.proofs.Common.{[], length, ap, sym, subst, ◌∙◌}
use Rattle.wgsl_format_layout.specs.Closing.{AreBelow, with_closes}
use Rattle.wgsl_format_layout.proofs.Closes.{length_closed, below_as}
use Rattle.wgsl_format_layout.proofs.places.Places.leave.Goals as goal

pub places-preserved : goal.places-preserved
places-preserved c =
    let ms = c.places.tokens.items in
    let place = c.in-Some.place in
    let size = ap length c.close_at.ensures ∙ length_closed ms place c.len-end.result in
    let below = subst (AreBelow (length ms)) c.in-Some.ensures c.places.invariant.below in
    record {
      below = below_as _ _ c.pop.new.self (sym size) below.1;
      same = size ∙ c.places.invariant.same;
      left = ap (λ xs. with_closes c.len-end.result xs c.pop.new.self []) c.close_at.ensures
          ∙ sym (ap (λ is. with_closes c.len-end.result ms is []) c.in-Some.ensures) ∙ c.places.invariant.left;
    }
