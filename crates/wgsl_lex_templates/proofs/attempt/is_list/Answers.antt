use Rattle.std.proofs.Common.{◌∙◌, ◌++◌, List, sym, ap}
use Rattle.wgsl_lex_token.specs.declared.kind_table.TokenKind.{TokenKind}
use Rattle.wgsl_lex_token.specs.View.{classes}
use Rattle.wgsl_lex_templates.specs.Kept.{held}
use Rattle.wgsl_lex_templates.proofs.attempt.is_list.Goals as goal

pub returns-clause-value : goal.returns-clause-value
returns-clause-value c ts e =
    let emptied = ap (λ (x : List TokenKind). classes x
    ++ held c.args.kept.now.pieces.items c.args.start c.len.result) c.clear.ensures.items in
    let all = c.in_ok-push_kinds.ensures ∙ emptied
    ∙ ap (held c.args.kept.now.pieces.items c.args.start) c.len.ensures in
    c.in_ok-found.ensures ts (e ∙ sym all ∙ ap classes (sym c.deref.ensures.value))

pub returns-clause-kinds : goal.returns-clause-kinds
returns-clause-kinds c =
    c.in_ok-push_kinds.ensures ∙ ap (λ (x : List TokenKind). classes x
    ++ held c.args.kept.now.pieces.items c.args.start c.len.result) c.clear.ensures.items
    ∙ ap (held c.args.kept.now.pieces.items c.args.start) c.len.ensures
