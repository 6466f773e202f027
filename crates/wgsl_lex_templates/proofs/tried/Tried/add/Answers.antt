use Rattle.std.proofs.Common.{◌≡◌, ◌∷◌, ◌++◌, [], ◌∙◌, refl, ap, subst, take, List}
use Rattle.wgsl_lex_templates.specs.declared.findings.Entry.{Entry}
use Rattle.wgsl_lex_templates.specs.declared.findings.Finding.{Finding}
use Rattle.wgsl_lex_templates.specs.declared.findings.Finding.TheVariants.{GoesOn}
use Rattle.wgsl_lex_templates.specs.declared.tried.Tried.{Tried}
use Rattle.wgsl_lex_templates.specs.Findings.{IsRight}
use Rattle.wgsl_lex_templates.proofs.Readings.Found.{right_same, right_around, right_of_all, one_more_right}
use Rattle.wgsl_lex_templates.proofs.tried.Tried.add.Goals.{then-is_list+in_ok-add-2, else-is_list}
use Rattle.wgsl_lex_templates.proofs.tried.Tried.add.Goals as goal

pub returns-then-are_few-clause-right : goal.returns-then-are_few-clause-right
returns-then-are_few-clause-right c total source are right =
    right_same total source (take c.args.read c.args.kept.now.pieces.items)
    c.truncate.new.self.pieces.items _ _ c.truncate.ensures refl are

pub returns-in_default-clause-right : goal.returns-in_default-clause-right
returns-in_default-clause-right c total source are right =
    let pieces = c.args.kept.now.pieces.items in
    let entries = c.args.self.now.findings.entries.items in
    right_same total source (take c.args.read pieces) c.truncate.new.self.pieces.items _
    c.add.new.self.entries.items c.truncate.ensures c.in_ok-add.ensures
    (right_around total source c.args.read pieces entries c.args.start c.args.finding c.in_default.not-GoesOn are right)

pub returns-then-are_few-2-clause-right : goal.returns-then-are_few-2-clause-right
returns-then-are_few-2-clause-right c total source are right =
    let entries = c.args.self.now.findings.entries.items in
    let same : c.if-is_list.self.findings.entries.items ≡ entries = elim c.if-is_list.branch [
      | then-is_list+in_ok-add-2 w ↦ ap (λ (tried : Tried). tried.findings.entries.items) w.self-is
      | else-is_list w ↦ ap (λ (tried : Tried). tried.findings.entries.items) w.self-is
    ] in
    right_same total source (take c.args.read c.args.kept.now.pieces.items)
    c.truncate-then-are_few-2.new.self.pieces.items entries _ c.truncate-then-are_few-2.ensures same are

pub returns-clause-right : goal.returns-clause-right
returns-clause-right c total source are right =
    let pieces = c.args.kept.now.pieces.items in
    let entries = c.args.self.now.findings.entries.items in
    let found = c.in-GoesOn in
    let entry : Entry =
    record { start = c.args.start; finding = GoesOn found.is_list found.place found.start found.end } in
    let same : c.if-is_list.self.findings.entries.items ≡ entries = elim c.if-is_list.branch [
      | then-is_list+in_ok-add-2 w ↦ ap (λ (tried : Tried). tried.findings.entries.items) w.self-is
      | else-is_list w ↦ ap (λ (tried : Tried). tried.findings.entries.items) w.self-is
    ] in
    right_same total source pieces pieces (entries ++ entry ∷ []) c.add-2.new.self.entries.items refl
    (c.in_ok-add-3.ensures ∙ ap (λ (x : List Entry). x ++ entry ∷ []) same)
    (one_more_right total source pieces entries entry (right_of_all total source c.args.read pieces entries are)
    (subst (λ (f : Finding). IsRight total source pieces (record { start = c.args.start; finding = f }))
    found.is right))
