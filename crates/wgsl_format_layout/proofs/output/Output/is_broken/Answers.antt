use Rattle.std.proofs.Common.{◌≡◌, suc, ◌+◌, ◌&&◌, ◌||◌, not, Bool, true, false, sym, ap, ap₂, subst, ◌∙◌, arith}
use Rattle.std.specs.List.{position_or_len}
use Rattle.wgsl_model_tidy.specs.Roles.{comma, is}
use Rattle.wgsl_model_tidy.specs.Open.{parted_at}
use Rattle.wgsl_model_tidy.specs.Ahead.{fits, ends_part, last_passes, content, has_several}
use Rattle.wgsl_format_layout.specs.Marks.{level_after}
use Rattle.wgsl_format_layout.specs.Walks.{Follow}
use Rattle.wgsl_format_layout.specs.Outputs.{layout_of}
use Rattle.wgsl_format_layout.proofs.Broken.{bracket_opens, bracket_closes_none, part_end_at}
use Rattle.wgsl_format_layout.proofs.output.Output.is_broken.Goals as goal

pub fits-requires : goal.fits-requires
fits-requires c = c.part_end.ensures.within c.after.ensures.within

pub returns-then-has_several : goal.returns-then-has_several
returns-then-has_several c n t ts p h =
    let old = c.args.self.now in
    let place = c.args.place in
    let tokens = c.args.tokens.now in
    let layout = layout_of old in
    let limit = parted_at old.state.operands in
    let column = old.text.line.column in
    let comma_is : last_passes (λ u. is u.role comma) (content (suc n) ts) ≡ false =
    sym (c.ends_with_comma.ensures p.before n t ts p.here (bracket_opens t.role h)) ∙ c.if-ends_with_comma.false in
    let several : has_several ts ≡ true = sym (c.has_several.ensures p.before n t ts p.here) ∙ c.if-has_several.true in
    let g = c.after.ensures.next p.before n t ts p.here (bracket_closes_none t.role h) in
    let end = part_end_at place c.after.result c.part_end.result n c.parted_at-limit.result tokens ts g
    (c.part_end.ensures.end g.before n g.next g.follow) in
    let one : suc place ≡ place + 1 = omega arith in
    let fit : c.fits.result ≡ fits layout (ends_part n limit) column ts =
    c.fits.ensures (ends_part n c.parted_at-limit.result) (level_after n t.role) ts
    (subst (λ k. Follow old.end k tokens (level_after n t.role) ts) one p.follow)
    (end ∙ ap (λ k. k + position_or_len (ends_part n c.parted_at-limit.result) ts) one)
    ∙ ap (λ l. fits layout (ends_part n l) column ts) c.parted_at-limit.ensures in
    ap not fit
    ∙ sym (ap₂ (λ (a : Bool) (b : Bool). a || (b && not (fits layout (ends_part n limit) column ts))) comma_is several)
