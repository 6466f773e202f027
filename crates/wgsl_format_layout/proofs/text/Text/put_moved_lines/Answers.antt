use Rattle.std.proofs.Common.{rules, ◌∙◌, false, chars, sym, ap}
use Rattle.std.proofs.lemmas.Result.{IfOk-weaker}
use Rattle.wgsl_model_tidy.specs.Shown.{with_front}
use Rattle.wgsl_theory_tidy.proofs.Written.{space_chars}
use Rattle.wgsl_format_layout.proofs.Added.{adds_as}
use Rattle.wgsl_format_layout.proofs.BlockLines.{front_at, moved_written, all_written}
use Rattle.wgsl_format_layout.proofs.text.Text.put_moved_lines.Goals as goal

pub lines-preserved : goal.lines-preserved
lines-preserved c = record {
  text = search rules;
  written = moved_written c.args.self.now c.lines.self c.put.new.self c.put_gap.new.self
      c.put-in-Some.new.self c.args.depth (chars c.args.text.now) (chars c.lines.rest.now)
      (chars c.in-Some.line.now) (chars c.in-Some.after.now)
      (chars c.after_spaces-rest.result.now) c.lines.invariant.written c.in-Some.ensures.value
      c.after_spaces-rest.ensures.value c.in_ok-put.ensures c.in_ok-put_gap.ensures
      (adds_as c.put_gap.new.self c.put-in-Some.new.self _ _ space_chars c.in_ok-put-2.ensures);
}

pub returns : goal.returns
returns c =
    let front = front_at c.args.self.now c.args.depth in
    let value = c.in_default.ensures.value in
    IfOk-weaker c.put-2.result _ _ (λ _ p.
    all_written c.args.self.now c.lines.self c.put-2.new.self _ _ c.lines.invariant.written
    (adds_as c.lines.self c.put-2.new.self _ _ (sym (ap (with_front front false) value.plain ∙ value.moved front)) p))
    c.put-2.ensures
