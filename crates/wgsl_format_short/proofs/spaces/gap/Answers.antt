use Rattle.std.proofs.Common.{◌∙◌, sym, ap, cond, [], ◌∷◌}
use Rattle.std.proofs.lemmas.Str.{chars-nil}
use Rattle.wgsl_lex_token.specs.View.{class_of_kind}
use Rattle.wgsl_model_short.specs.Spaces.{goes_on}
use Rattle.wgsl_format_short.proofs.Written.{space_chars}
use Rattle.wgsl_format_short.proofs.spaces.gap.Goals as goal

pub returns-then-goes_on : goal.returns-then-goes_on
returns-then-goes_on c = space_chars ∙ ap (λ b. cond b (32 ∷ []) []) (sym c.if-goes_on.true ∙ c.goes_on.ensures
    ∙ ap (λ x. goes_on (class_of_kind c.args.last) x) c.first.ensures)

pub returns-else-goes_on : goal.returns-else-goes_on
returns-else-goes_on c = chars-nil ∙ ap (λ b. cond b (32 ∷ []) []) (sym c.if-goes_on.false ∙ c.goes_on.ensures
    ∙ ap (λ x. goes_on (class_of_kind c.args.last) x) c.first.ensures)
