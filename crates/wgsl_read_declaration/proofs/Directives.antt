-- Directives by their parts.
use Rattle.std.proofs.Common.{◌≡◌, ◌∙◌}
use Rattle.grammar.specs.States.{State, Read, Read.done, ◌>>=◌}
use Rattle.grammar.proofs.Binding.{bind_associates, bind_alike}
use Rattle.wgsl_model.specs.Trees.Attributed.{with_attributes}
use Rattle.wgsl_model.specs.Trees.Units.{GlobalDirective}
use Rattle.wgsl_model.specs.Grammar.Symbols.{Symbol.global_directive}
use Rattle.wgsl_theory_grammar.specs.Factored.{FactoredSymbol.of, FactoredSymbol.further, Further.attribute_list, Further.directive_part}
use Rattle.wgsl_theory_grammar.specs.Reader.{reader}
use Rattle.wgsl_theory_grammar.specs.UnitRules.{global_directive_at}
use Rattle.wgsl_theory_grammar.proofs.UnitEquations.{global_directive_is}
use Rattle.wgsl_read_attribute.specs.After.{after_attributes}

-- attributes, and what is after them
unfoldable pub global_directive_parts : State → Read GlobalDirective
global_directive_parts s = reader (further attribute_list) s
    >>= λ a s'. after_attributes with_attributes a (reader (further directive_part)) s'

pub global_directive_by_parts : (s : State) → reader (of global_directive) s ≡ global_directive_parts s
unfolding global_directive_at global_directive_parts
global_directive_by_parts s =
    global_directive_is s
    ∙ bind_associates (reader (further attribute_list) s) (λ a s'. reader (further directive_part) s'
    >>= λ u s''. done (a, u) s'') (λ p s'. done (with_attributes p.0 p.1) s')
    ∙ bind_alike (reader (further attribute_list) s) _ _ (λ a s' h. bind_associates (reader (further
    directive_part) s') (λ u s''. done (a, u) s'') (λ p s''. done (with_attributes p.0 p.1) s''))
