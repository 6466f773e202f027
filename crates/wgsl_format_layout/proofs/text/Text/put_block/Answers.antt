use Rattle.std.proofs.Common.{chars, sym, ◌∙◌}
use Rattle.std.proofs.lemmas.Result.{IfOk-weaker}
use Rattle.wgsl_format_layout.proofs.Added.{adds_as}
use Rattle.wgsl_format_layout.proofs.BlockLines.{front_at, block_moves, block_has_no_stars, block_begins_no_line}
use Rattle.wgsl_format_layout.proofs.text.Text.put_block.Goals as goal
use Rattle.wgsl_format_layout.proofs.text.Text.put_block.Goals.{else-begins-via-then-begins+else-has_stars, else-begins-via-else-begins}

pub returns-then-has_stars : goal.returns-then-has_stars
returns-then-has_stars c =
    IfOk-weaker c.put_moved_lines.result _ _ (λ _ p.
    adds_as c.args.self.now c.put_moved_lines.new.self _ _
    (block_moves (front_at c.args.self.now c.args.depth) c.args.begins (chars c.args.text.now)
    c.if-begins.true (sym c.if-has_stars.ensures)) p) c.put_moved_lines.ensures

pub returns-else-begins : goal.returns-else-begins
returns-else-begins c =
    let front = front_at c.args.self.now c.args.depth in
    let text = chars c.args.text.now in
    IfOk-weaker c.put_lines.result _ _ (λ _ p.
    elim c.else-begins.branch [
      | else-begins-via-then-begins+else-has_stars w ↦ adds_as c.args.self.now c.put_lines.new.self _ _
          (block_has_no_stars front c.args.begins text (sym w.has_stars.ensures ∙ w.if-has_stars.false)) p
      | else-begins-via-else-begins w ↦ adds_as c.args.self.now c.put_lines.new.self _ _
          (block_begins_no_line front c.args.begins text w.if-begins.false) p
    ]) c.put_lines.ensures
