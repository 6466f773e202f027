use Rattle.std.proofs.Common.{List, ℕ, chars, subst, ◌∙◌}
use Rattle.std.specs.Cow.{cow_str_bytes}
use Rattle.wgsl_error.specs.declared.Error.{Error}
use Rattle.wgsl_error.specs.declared.snippet.ErrorWithSource.{ErrorWithSource}
use Rattle.wgsl_buffers.specs.Answers.{nul_terminated, error_lines, TellsTexts}
use Rattle.wgsl_buffers.proofs.snippets.tell_lines.Goals as goal

pub returns-clause-refused : goal.returns-clause-refused
returns-clause-refused c one =
    let tells : List ℕ → Error → Type 0 =
    λ texts e. TellsTexts texts e c.args.buffer.now c.tell_texts.new.buffer c.tell_texts.new.answer in
    subst (λ (shown : ErrorWithSource).
    tells (nul_terminated (error_lines c.args.name.now (chars (cow_str_bytes shown.source)) shown.error)) shown.error)
    c.with_source-shown.ensures
    (subst (λ texts. tells texts c.with_source-shown.result.error) (c.as_str.ensures.value ∙ c.in-Ok.ensures)
    c.tell_texts.ensures.told)
