use Rattle.std.proofs.Common.{rules, chars, sym}
use Rattle.std.proofs.lemmas.Result.{IfOk-weaker}
use Rattle.wgsl_theory_tidy.proofs.Written.{line_chars}
use Rattle.wgsl_format_layout.proofs.Added.{adds_as}
use Rattle.wgsl_format_layout.proofs.BlockLines.{line_written, all_written}
use Rattle.wgsl_format_layout.proofs.text.Text.put_lines.Goals as goal

pub lines-preserved : goal.lines-preserved
lines-preserved c = record {
  text = search rules;
  written = line_written c.args.self.now c.lines.self c.put.new.self c.put-in-Some.new.self
      (chars c.args.text.now) (chars c.lines.rest.now) (chars c.in-Some.line.now)
      (chars c.in-Some.after.now)
      c.lines.invariant.written c.in-Some.ensures.value c.in_ok-put.ensures
      (adds_as c.put.new.self c.put-in-Some.new.self _ _ line_chars c.in_ok-put-2.ensures);
}

pub returns : goal.returns
returns c =
    IfOk-weaker c.put-2.result _ _ (λ _ p.
    all_written c.args.self.now c.lines.self c.put-2.new.self _ _ c.lines.invariant.written
    (adds_as c.lines.self c.put-2.new.self _ _ (sym c.in_default.ensures.value.plain) p)) c.put-2.ensures
