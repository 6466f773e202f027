-- Without a comma the list has to end.
use Rattle.std.proofs.Common.{ℕ, List, ap, ◌∙◌}
use Rattle.std.specs.Prelude.{Option, Some}
use Rattle.wgsl_model.specs.Grammar.Symbols.{Symbol.expression}
use Rattle.wgsl_theory_grammar.specs.Factored.{FactoredSymbol.of}
use Rattle.wgsl_lex_token.specs.View.{class_of_kind, classes}
use Rattle.wgsl_lex_templates.specs.Advancing.{advances, ◌>>=◌, if_there, take}
use Rattle.wgsl_lex_templates.proofs.brackets.close_list.Goals as goal

pub returns-in_default-clause-value : goal.returns-in_default-clause-value
returns-in_default-clause-value c rest h =
    let cs = classes c.args.kinds.now in let end = class_of_kind c.args.end in
    c.close_with.ensures.value rest (h cs ∙ ap (λ (m : Option (List ℕ)). if_there m
    (λ ds. if_there (take end ds) Some (advances (of expression) ds >>= rest)) (take end cs))
    c.in_default.ensures.value)
