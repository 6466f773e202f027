use Rattle.std.proofs.Common.{rules, sym, ap, ◌≡◌, ℕ, List, take, Some, Ok}
use Rattle.std.specs.Fmt.{◌++?◌, DisplaysOnOk}
use Rattle.std.proofs.Output.{displays_on_ok_of_eq, displays_on_IsOk_append}
use Rattle.wgsl_writer.specs.Joined.{joined_output}
use Rattle.wgsl_writer.proofs.Joins.{before, before_next, joined_output_more}
use Rattle.wgsl_writer.proofs.write_joined.Goals as goal

pub items-preserved : goal.items-preserved
items-preserved g c =
    let items = c.args.items.now in
    let sep = c.args.separator.now in
    let o = g.T.Display.output in
    let k = c.items.item-index in
    let x = c.item-item.result in
    let took = g.W.Write.write_str_gives in
    let start = c.args.f.now in
    let top = c.items.f in
    let middle = c.write_str.new.self in
    let end = c.write.new.self in
    let same : Some c.items.before.now ≡ Some (before sep k) = ap (λ (s : List ℕ). Some s) c.items.invariant.0 in
    let first : DisplaysOnOk took top (Ok tt) (Some (before sep k)) middle =
    displays_on_ok_of_eq took top middle (Ok tt) _ _ same (search rules) in
    let now : DisplaysOnOk took top (Ok tt) (Some (before sep k) ++? o x) end =
    displays_on_IsOk_append took top middle end (Ok tt) (Ok tt) (Some (before sep k)) (o x)
    (λ e. e) first (search rules) in (
      sym (before_next sep k),
      c.utf8.separator,
      displays_on_ok_of_eq took start end (Ok tt) _ _
          (sym (joined_output_more o sep items k x (search rules) c.item-item.is))
          (displays_on_IsOk_append took start top end (Ok tt) (Ok tt) (joined_output o sep
          (take k items)) (Some (before sep k) ++? o x) (λ e. e) c.items.invariant.2 now),
    )
