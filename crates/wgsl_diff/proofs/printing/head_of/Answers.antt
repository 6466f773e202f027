use Rattle.std.proofs.Common.{◌≡◌, ap, ◌∙◌, ◌++◌, length, map, codes, string_bytes}
use Rattle.std.proofs.lemmas.Result.{IfOk-weaker}
use Rattle.wgsl_diff.specs.Diffs.{old_lines}
use Rattle.wgsl_diff.specs.Printing.{print_range, print_head}
use Rattle.wgsl_diff.specs.View.{line_view}
use Rattle.wgsl_diff.proofs.Texts.{five_joined}
use Rattle.wgsl_diff.proofs.printing.head_of.Goals as goal

pub returns : goal.returns
unfolding print_head
returns c = IfOk-weaker c.format.result _ _ (λ head told.
    let hunk = c.args.hunk.now in
    let old = string_bytes c.in_ok-old.old in
    let new = string_bytes c.in_ok-new.new in
    let removed = print_range hunk.old_start (length (old_lines (map line_view hunk.lines.now))) in
    let written : string_bytes head ≡ codes "@@ -" ++ (old ++ (codes " +" ++ (new ++ codes " @@\n"))) = told in
    written ∙ five_joined (codes "@@ -") old (codes " +") new (codes " @@\n")
    ∙ ap (λ r. (((codes "@@ -" ++ r) ++ codes " +") ++ new) ++ codes " @@\n")
    (c.in_ok-old.ensures ∙ ap (print_range hunk.old_start) c.old_count.ensures.count)
    ∙ ap (λ r. (((codes "@@ -" ++ removed) ++ codes " +") ++ r) ++ codes " @@\n") (c.in_ok-new.ensures
    ∙ ap (print_range hunk.new_start) c.new_count.ensures.count)) c.format.ensures.ok
