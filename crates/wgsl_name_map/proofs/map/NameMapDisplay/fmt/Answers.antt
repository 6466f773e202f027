use Rattle.std.proofs.Common.{rules, ◌≡◌, ◌+◌, ◌++◌, refl, sym, ap, subst, ◌∙◌, codes, List, ℕ, Some, take}
use Rattle.std.specs.Fmt.{HasWritten}
use Rattle.std.specs.List.{join_by, slice_get}
use denote.Ref.{Bor}
use denote.Shadow.{shadow}
use denote.Text.{Utf8}
use Rattle.std.proofs.Output.{has_written_append, has_written_of_eq}
use Rattle.wgsl_writer.proofs.Joins.{before_next}
use Rattle.wgsl_tree_renamed.specs.NewNames.{pairs}
use Rattle.wgsl_name_map.specs.Maps.{member}
use Rattle.wgsl_name_map.proofs.Members.{all_written, none_missing, one_more}
use Rattle.wgsl_name_map.proofs.map.NameMapDisplay.fmt.Goals as goal
use Rattle.wgsl_name_map.proofs.map.NameMapDisplay.fmt.Goals.{in-Some+in_ok-write_str-2+in_ok-write_member, in_default}

pub pairs-init : goal.pairs-init
pairs-init g c = (refl, search rules, λ plain. c.write_str.ensures.writes plain (search rules))

pub write_str-requires-in-Some-text-s : goal.write_str-requires-in-Some-text-s
write_str-requires-in-Some-text-s g c κs within = c.pairs.invariant.1

pub pairs-preserved : goal.pairs-preserved
unfolding lib.Utf8.encode
pairs-preserved g c =
    let names = pairs c.args.self.now.names.now in
    let k = c.pairs.index in elim c.match-get.branch [
      | in-Some+in_ok-write_str-2+in_ok-write_member w ↦
          let here : slice_get names k ≡ Some (w.in-Some.name.now, w.in-Some.new_name.now) = sym w.in-Some.ensures in (
            ap (λ b. b.now) w.before-is ∙ sym (before_next (codes ",") k),
            subst (λ (b : Bor (List ℕ)). shadow (Utf8 b.now)) (sym w.before-is) (codes ",", (refl, refl)),
            λ plain.
                let so_far = c.pairs.invariant.2 plain in
                let one = w.write_str-in-Some.ensures.writes so_far.plain (search rules) in
                let two = w.write_member.ensures one.plain (search rules) in
                subst (HasWritten g.W.Write.write_str_gives c.args.f.now
                (codes "{" ++ join_by member (codes ",") (take (k + 1) names))) (sym w.f-is)
                (has_written_of_eq _ _ _ _ _
                (ap (λ b. ((codes "{" ++ join_by member (codes ",") (take k names)) ++ b)
                ++ member (w.in-Some.name.now, w.in-Some.new_name.now)) c.pairs.invariant.0
                ∙ one_more names k w.in-Some.name.now w.in-Some.new_name.now here)
                (has_written_append _ _ _ _ _ _ (has_written_append _ _ _ _ _ _ so_far one) two)),
          )
      | in_default w ↦ absurd (none_missing names k (search rules) w.in_default.ensures)
    ]

pub returns-clause-writes : goal.returns-clause-writes
returns-clause-writes g c = λ plain ok.
    let names = pairs c.args.self.now.names.now in
    let so_far = c.pairs.invariant.2 plain in
    let last = c.write_str-2.ensures.writes so_far.plain ok in
    has_written_of_eq _ _ _ _ _ (all_written names c.pairs.index (search rules))
    (has_written_append _ _ _ _ _ _ so_far last)
