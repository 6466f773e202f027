-- One token closes parentheses and an index; arguments and templates are lists.
use Rattle.std.proofs.Common.{refl, sym, subst}
use Rattle.wgsl_lex_token.specs.View.{classes}
use Rattle.wgsl_lex_templates.specs.declared.brackets.Bracket.{Bracket}
use Rattle.wgsl_lex_templates.specs.declared.brackets.Bracket.TheVariants as brackets
use Rattle.wgsl_lex_templates.specs.Expressions.{rest_of_bracket, IsClosingBy}
use Rattle.wgsl_lex_templates.proofs.Advancing.Steps.{arguments_are, items_are}
use Rattle.wgsl_lex_templates.proofs.brackets.close.Goals as goal

pub returns-in-Parentheses-clause-value : goal.returns-in-Parentheses-clause-value
returns-in-Parentheses-clause-value c =
    subst (λ (b : Bracket). IsClosingBy (rest_of_bracket b) (classes c.args.kinds.now) c.close_with.result)
    (sym c.in-Parentheses.is) (c.close_with.ensures.value (rest_of_bracket brackets.Parentheses) refl)

pub returns-in-Index-clause-value : goal.returns-in-Index-clause-value
returns-in-Index-clause-value c =
    subst (λ (b : Bracket). IsClosingBy (rest_of_bracket b) (classes c.args.kinds.now) c.close_with-in-Index.result)
    (sym c.in-Index.is) (c.close_with-in-Index.ensures.value (rest_of_bracket brackets.Index) refl)

pub returns-in-Arguments-clause-value : goal.returns-in-Arguments-clause-value
returns-in-Arguments-clause-value c =
    subst (λ (b : Bracket). IsClosingBy (rest_of_bracket b) (classes c.args.kinds.now) c.close_list.result)
    (sym c.in-Arguments.is) (c.close_list.ensures.value (rest_of_bracket brackets.Arguments) arguments_are)

pub returns-in-Template-clause-value : goal.returns-in-Template-clause-value
returns-in-Template-clause-value c =
    subst (λ (b : Bracket). IsClosingBy (rest_of_bracket b) (classes c.args.kinds.now) c.close_list-in-Template.result)
    (sym c.in-Template.is) (c.close_list-in-Template.ensures.value (rest_of_bracket brackets.Template) items_are)
