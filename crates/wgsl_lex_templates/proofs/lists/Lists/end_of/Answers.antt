use Rattle.std.proofs.Common.{◌≡◌, rules, sym, ap, subst, ◌∙◌, List, Ok, Err, true, None, Some, get_or}
use Rattle.std.specs.Ordering.{nat_cmp}
use Rattle.std.proofs.lemmas.Fn.{always_returns_same}
use Rattle.wgsl_span.specs.declared.Span.{Span}
use Rattle.wgsl_lex_templates.specs.Spans.{are_backward, end_from}
use Rattle.wgsl_lex_templates.proofs.TextLists.Searched.{searched}
use Rattle.wgsl_lex_templates.proofs.lists.Lists.end_of.Goals as goal

pub returns-in-Ok : goal.returns-in-Ok
returns-in-Ok c =
    let same : c.deref.result.now ≡ c.args.self.now.spans.items = c.deref.ensures.value in
    let ordered = subst (λ (spans : List Span). are_backward spans ≡ true) (sym same) c.args.self.now.ordered in
    let facts = c.in-Ok.ensures in
    let by_start = facts.position (λ span. nat_cmp c.args.start span.start)
    (always_returns_same _ _ _ (λ a r g called. (search rules, search rules))) in
    let found = searched c.deref.result.now c.args.start (Ok c.in-Ok.at) ordered facts.bound by_start in
    let value = subst (λ (spans : List Span). end_from spans c.args.start
    ≡ Some (get_or spans c.in-Ok.at c.index.result.now).end) same (found.1 c.index.result.now) in
    sym (value ∙ ap (λ (x : Span). Some x.end) (sym c.index.ensures))

pub returns-in-Err : goal.returns-in-Err
returns-in-Err c =
    let same : c.deref.result.now ≡ c.args.self.now.spans.items = c.deref.ensures.value in
    let ordered = subst (λ (spans : List Span). are_backward spans ≡ true) (sym same) c.args.self.now.ordered in
    let facts = c.in-Err.ensures in
    let by_start = facts.position (λ span. nat_cmp c.args.start span.start)
    (always_returns_same _ _ _ (λ a r g called. (search rules, search rules))) in
    let none = searched c.deref.result.now c.args.start (Err c.in-Err.field-0) ordered facts.bound by_start in
    sym (subst (λ (spans : List Span). end_from spans c.args.start ≡ None) same none)
