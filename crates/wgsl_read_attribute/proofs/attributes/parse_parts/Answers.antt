use Rattle.std.proofs.Common.{◌≡◌, sym, ap, ◌∙◌, arith}
use Rattle.std.proofs.lemmas.Grind.{common_steps}
use Rattle.grammar.specs.States.{State, first_of, after}
use Rattle.wgsl_model.specs.Tokens.ClassTable.{SymAttr}
use Rattle.wgsl_model.specs.Grammar.TokenValues.{text_of}
use Rattle.wgsl_read_cursor.specs.Reading.{state}
use Rattle.wgsl_read_attribute.proofs.Equations.{attribute_parts_is, taken_is}
use Rattle.wgsl_read_attribute.proofs.attributes.parse_parts.Goals as goal

pub returns-clause-value : goal.returns-clause-value
returns-clause-value c =
    let old = state c.args.tokens.now in
    let following : after old ≡ state c.expect.new.self = taken_is SymAttr old
    (state c.expect.new.self) (first_of old) c.in_ok-expect.ensures.value in
    grind (arith, common_steps, attribute_parts_is)

pub returns-clause-name : goal.returns-clause-name
returns-clause-name c =
    let old = state c.args.tokens.now in
    c.in_ok-name.ensures.word ∙ ap (λ (s : State). text_of (first_of s))
    (sym (taken_is SymAttr old (state c.expect.new.self) (first_of old) c.in_ok-expect.ensures.value))
