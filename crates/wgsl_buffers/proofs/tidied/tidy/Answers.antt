use Rattle.std.proofs.Common.{rules, ℕ, List, subst}
use Rattle.wgsl_model_tidy.specs.Syntax.{IsFaultAfterMark}
use Rattle.wgsl_buffers.specs.Deep.{TellsDeeperAfterMark}
use Rattle.wgsl_buffers.proofs.Refused.{refused_by}
use Rattle.wgsl_buffers.proofs.tidied.tidy.Goals as goal

pub returns-in-Err : goal.returns-in-Err
returns-in-Err c = record {
  refused = λ one. refused_by IsFaultAfterMark c.in-Some.source.now c.args.text.now c.args.buffer.now
      c.tell_refused.new.buffer c.tell_refused.new.answer c.in-Err.error c.in-Some.ensures.0 c.in-Err.ensures.refused
      c.in-Err.ensures.placed (c.tell_refused.ensures.named one) (c.tell_refused.ensures.refused one);
  deeper = λ seven. subst (λ (s : List ℕ). TellsDeeperAfterMark c.args.depth s c.args.buffer.now c.tell_refused.new.buffer
      c.tell_refused.new.answer) c.in-Some.ensures.0 (c.tell_refused.ensures.deeper seven);
  formatted = search rules;
  small = search rules;
  status = search rules;
  reads = search rules;
}
