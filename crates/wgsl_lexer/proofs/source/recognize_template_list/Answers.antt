use Rattle.std.proofs.Common.{sym, ap, ◌∙◌, chars}
use Rattle.std.specs.Prelude.{◌-◌, is_some}
use Rattle.wgsl_model.specs.Tokens.TokenList.{width}
use Rattle.wgsl_lex_scanner.specs.View.{lexeme_view}
use Rattle.wgsl_theory_grammar.proofs.Tokens.Places.{bytes_width}
use Rattle.wgsl_lexer.proofs.Recognized.{recognized}
use Rattle.wgsl_lexer.proofs.source.recognize_template_list.Goals as goal

pub returns : goal.returns
returns c =
    let source = chars c.args.source.now in
    let from = chars c.in-Found.from.now in
    let start = c.place.ensures
    ∙ ap (λ total. total - width from) (sym (bytes_width c.args.source.now c.utf8.source)) in
    rw (c.is_some.ensures ∙ ap is_some c.end_of.ensures)
    (recognized source from (chars c.in-Found.after.now)
    (lexeme_view c.in-Found.lexeme) c.in_ok-templates.templates.lists.spans.items c.place.result
    (sym c.in-Found.ensures.value) c.in_ok-templates.ensures.lists start)
