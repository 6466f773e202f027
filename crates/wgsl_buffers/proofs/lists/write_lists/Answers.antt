use Rattle.std.proofs.Common.{◌≡◌, chars, length, subst, ap, ◌∙◌, arith, rules}
use Rattle.wgsl_model.specs.Tokens.Places.{width}
use Rattle.wgsl_lex_templates.specs.Lists.{AreLists}
use Rattle.wgsl_buffers.specs.Answers.{counted}
use Rattle.wgsl_buffers.specs.Items.{lists_before, ArePlaces}
use Rattle.wgsl_buffers.proofs.Written.{all_places}
use Rattle.wgsl_buffers.proofs.lists.write_lists.Goals as goal

pub returns-then-buffer-count : goal.returns-then-buffer-count
returns-then-buffer-count c =
    let text = c.args.text.now in
    let spans = c.in-Ok.templates.lists.spans.items in
    let are : ArePlaces (chars text) (lists_before spans (length text)) =
    all_places text spans c.in-Some.ensures.1
    (subst (λ s. AreLists (width (chars s)) spans (chars s)) c.in-Some.ensures.0 c.in-Ok.ensures.lists) in
    record {
      small = λ _. (
        lists_before spans (length text),
        are,
        c.fill-count.ensures.held,
        omega (arith, c.fill-count.ensures.count, c.if-buffer-count.true),
        c.of_size.ensures ∙ ap counted c.fill-count.ensures.count,
      );
      all = search rules;
      status = search rules;
      reads = search rules;
    }

pub returns : goal.returns
returns c =
    let text = c.args.text.now in
    let spans = c.in-Ok.templates.lists.spans.items in
    let are : ArePlaces (chars text) (lists_before spans (length text)) =
    all_places text spans c.in-Some.ensures.1
    (subst (λ s. AreLists (width (chars s)) spans (chars s)) c.in-Some.ensures.0 c.in-Ok.ensures.lists) in
    let count : c.fill-count.result ≡ length (lists_before spans (length text)) =
    omega (arith, c.fill-count.ensures.count, c.if-buffer-count.false) in
    record {
      all = λ _. (
        lists_before spans (length text),
        are,
        c.fill-count.ensures.held,
        omega (arith, count, c.if-buffer-count.false),
        c.of_size.ensures ∙ ap counted count,
      );
      small = search rules;
      status = search rules;
      reads = search rules;
    }
