use Rattle.std.proofs.Common.{rules, ◌≡◌, List, get_or, sym, subst}
use Rattle.std.specs.Ordering.{nat_cmp}
use Rattle.std.proofs.lemmas.Cmp.{ranked}
use Rattle.std.proofs.lemmas.Fn.{always_returns_same}
use Rattle.wgsl_lex_templates.specs.Findings.{IsEntry}
use Rattle.wgsl_lex_templates.specs.declared.findings.Entry.{Entry}
use Rattle.wgsl_lex_templates.proofs.Readings.Found.{entry_at}
use Rattle.wgsl_lex_templates.proofs.findings.Findings.at.Goals as goal

pub returns-in-Ok : goal.returns-in-Ok
returns-in-Ok c =
    let same : c.deref.result.now ≡ c.args.self.now.entries.items = c.deref.ensures.value in
    let facts = c.in-Ok.ensures in
    let by_start = facts.position (λ entry. nat_cmp c.args.start entry.start)
    (always_returns_same _ _ _ (λ a r g called. (search rules, search rules))) in
    let entry = entry_at c.deref.result.now c.in-Ok.at c.args.start c.index.result.now facts.bound
    (ranked c.args.start _ _ (sym (by_start c.index.result.now))) in
    let moved = subst (λ (entries : List Entry). IsEntry entries c.args.start
    (get_or entries c.in-Ok.at c.index.result.now).finding) same entry in
    subst (λ (e : Entry). IsEntry c.args.self.now.entries.items c.args.start e.finding)
    (sym c.index.ensures) moved
