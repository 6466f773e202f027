-- Declarations by their parts.
use Rattle.std.proofs.Common.{◌≡◌, ◌∙◌, ap, cond}
use Rattle.grammar.specs.States.{State, Read, Read.done, ◌>>=◌, is_at, next_start, span_from, go}
use Rattle.grammar.proofs.Binding.{bind_associates, pair_goes_on}
use Rattle.wgsl_model.specs.Tokens.ClassTable.{SymSemicolon}
use Rattle.wgsl_model.specs.Trees.Spanned.{Spanned, spanned}
use Rattle.wgsl_model.specs.Trees.Attributed.{with_attributes}
use Rattle.wgsl_model.specs.Trees.Units.{GlobalDeclaration}
use Rattle.wgsl_model.specs.Grammar.Symbols.{Symbol.global_declaration}
use Rattle.wgsl_theory_grammar.specs.Factored.{FactoredSymbol.of, FactoredSymbol.further, Further.attribute_list, void_declaration}
use Rattle.wgsl_theory_grammar.specs.Tables.{tables}
use Rattle.wgsl_theory_grammar.specs.Reader.{reader}
use Rattle.wgsl_theory_grammar.specs.UnitRules.{global_declaration_at}
use Rattle.wgsl_theory_grammar.proofs.UnitEquations.{global_declaration_is}
use Rattle.wgsl_read_unit.specs.Parts.{declaration_part_at, declaration_after_at}

-- an empty declaration
unfoldable pub void_at : State → Read (Spanned GlobalDeclaration)
void_at s = go tables reader void_declaration s

-- attributes, and a declaration after them
unfoldable pub attributed_at : State → Read (Spanned GlobalDeclaration)
attributed_at s = reader (further attribute_list) s >>= λ a s'. declaration_after_at a (next_start s) s'

unfoldable pub global_declaration_parts : State → Read (Spanned GlobalDeclaration)
global_declaration_parts s = cond (is_at SymSemicolon s) (void_at s) (attributed_at s)

pub global_declaration_by_parts : (s : State) → reader (of global_declaration) s ≡ global_declaration_parts s
unfolding global_declaration_at global_declaration_parts void_at attributed_at declaration_after_at declaration_part_at
global_declaration_by_parts s =
    let place : GlobalDeclaration → State → Read (Spanned GlobalDeclaration) =
    λ d s'. done (spanned d (span_from (next_start s) s')) s' in
    global_declaration_is s
    ∙ ap (cond (is_at SymSemicolon s) (void_at s))
    (ap (λ m. m >>= place) (pair_goes_on (reader (further attribute_list) s) declaration_part_at
    (λ p s'. done (with_attributes p.0 p.1) s'))
    ∙ bind_associates (reader (further attribute_list) s)
    (λ a s'. declaration_part_at s' >>= λ u s''. done (with_attributes a u) s'') place)
