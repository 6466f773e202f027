use Rattle.std.proofs.Common.{rules, ℕ, List, chars, subst}
use Rattle.wgsl_model.specs.Program.{IsFaultOf}
use Rattle.wgsl_buffers.specs.Answers.{nul_terminated, error_lines, TellsTexts}
use Rattle.wgsl_buffers.specs.Deep.{TellsDeeperLines}
use Rattle.wgsl_buffers.proofs.Refused.{refused_with_lines}
use Rattle.wgsl_buffers.proofs.snippets.write_snippet.Goals as goal

pub returns-in-Err : goal.returns-in-Err
returns-in-Err c =
    let e = c.in-Err.error in
    record {
      refused = λ one. refused_with_lines IsFaultOf c.args.name.now c.in-Some.source.now c.args.text.now
          c.args.buffer.now c.tell_lines.new.buffer c.tell_lines.new.answer e c.in-Some.ensures.0
          c.in-Err.ensures.refused c.in-Err.ensures.placed (c.tell_lines.ensures.named one)
          (subst (λ name. TellsTexts (nul_terminated (error_lines name (chars c.in-Some.source.now) e)) e
          c.args.buffer.now c.tell_lines.new.buffer c.tell_lines.new.answer) c.in-Ok.ensures.cases.0
          (c.tell_lines.ensures.refused one));
      deeper = λ seven. subst (λ (s : List ℕ). TellsDeeperLines c.args.name.now c.args.depth s c.args.buffer.now
          c.tell_lines.new.buffer c.tell_lines.new.answer) c.in-Some.ensures.0
          (subst (λ (name : List ℕ). TellsDeeperLines name c.args.depth c.in-Some.source.now c.args.buffer.now
          c.tell_lines.new.buffer c.tell_lines.new.answer) c.in-Ok.ensures.cases.0
          (c.tell_lines.ensures.deeper seven));
      accepted = search rules;
      bad_name = search rules;
      named = search rules;
      status = search rules;
      reads = search rules;
    }
