use Rattle.std.proofs.Common.{rules, ℕ, List, subst}
use Rattle.wgsl_model.specs.Program.{IsFaultOf}
use Rattle.wgsl_buffers.specs.Deep.{TellsDeeper}
use Rattle.wgsl_buffers.proofs.Refused.{refused_by}
use Rattle.wgsl_buffers.proofs.minified.minify.Goals as goal

pub returns-in-Err : goal.returns-in-Err
returns-in-Err c = record {
  refused = λ one. refused_by IsFaultOf c.in-Some.source.now c.args.text.now c.args.buffer.now
      c.tell_error.new.buffer c.tell_error.new.answer c.in-Err.error c.in-Some.ensures.0 c.in-Err.ensures.refused
      c.in-Err.ensures.placed (c.tell_error.ensures.named one) (c.tell_error.ensures.refused one);
  deeper = λ seven. subst (λ (s : List ℕ). TellsDeeper c.args.depth s c.args.buffer.now c.tell_error.new.buffer
      c.tell_error.new.answer) c.in-Some.ensures.0 (c.tell_error.ensures.deeper seven);
  minified = search rules;
  small = search rules;
  unknown = search rules;
  known = search rules;
  bad_keep = search rules;
  kept = search rules;
  status = search rules;
  reads = search rules;
}
