-- Parts of modules, and rules that RuleTerms leaves out, derive the same wherever the tokens are.
use Rattle.std.proofs.Common.{◌≡◌, List, map, Option, Some, None, refl, sym, ap, ◌∙◌}
use Rattle.std.specs.Option.{option_map}
use Rattle.grammar.specs.Tokens.{Token}
use Rattle.grammar.specs.Grammar.{Grammar.symbol}
use Rattle.grammar.specs.Notation.{list}
use Rattle.wgsl_model.specs.Tokens.ClassTable.{SymArrow, SymComma, SymParenLeft, SymParenRight, SymPeriod, SymSemicolon, KwFn}
use Rattle.wgsl_model.specs.Tokens.Kind.{Kind, placed}
use Rattle.wgsl_model.specs.Trees.Expressions.{TypeExpression}
use Rattle.wgsl_model.specs.Trees.Attributes.{Attributes}
use Rattle.wgsl_model.specs.Trees.Statements.{CompoundStatement}
use Rattle.wgsl_model.specs.Trees.Units as tree
use Rattle.wgsl_model.specs.Trees.Units.{FormalParameter, UnattributedDirective, UnattributedDeclaration}
use Rattle.wgsl_model.specs.Grammar.Checks.{severity_of}
use Rattle.wgsl_model.specs.Trees.StatementsWithoutSpans.{bare_compound, bare_directive, bare_parameter, bare_function, bare_unattributed_declaration, bare_global_declaration}
use Rattle.wgsl_model.specs.Trees.Attributed.{with_attributes}
use Rattle.wgsl_model.specs.Grammar.StatementParts.{attributed}
use Rattle.wgsl_model.specs.Grammar.UnitParts.{return_part, function_parts, texts_of}
use Rattle.wgsl_model.specs.Grammar.Symbols.{ident, type_specifier, compound_statement, formal_parameter, function_declaration, diagnostic_severity, diagnostic_directive, Rule}
use Rattle.wgsl_model.specs.Grammar.Written.{written}
use Rattle.wgsl_theory_reread.specs.CanonicalUnits.{without_place}
use Rattle.wgsl_theory_reread.proofs.EachRule.UnitParts.{FunctionParts, function_in, same_rule, bare_returned, texts_mapped}
use Rattle.wgsl_theory_tidy.proofs.Moved.Alike.{Alike}
use Rattle.wgsl_theory_tidy.proofs.Moved.Ways.{MovesBy, token_moves, symbol_moves, then_moves, gives_moves, alike_moves, before_moves, after_moves, optional_moves, list_moves, list_or_none_moves}
use Rattle.wgsl_theory_tidy.proofs.Moved.ExpressionRules.{name_moves}
use Rattle.wgsl_theory_tidy.proofs.Moved.AttributeRules.{attributes_move}
use Rattle.wgsl_theory_tidy.proofs.Moved.StatementRules.{with_attributes_moves}

-- ---- declarations
abbrev SameDeclaration : UnattributedDeclaration → UnattributedDeclaration → Type 0
SameDeclaration w v = bare_unattributed_declaration w ≡ bare_unattributed_declaration v

-- a declaration after its attributes
pub declaration_moves : {g : Rule UnattributedDeclaration} → MovesBy g SameDeclaration
    → MovesBy (attributed with_attributes g) (λ w v. bare_global_declaration w ≡ bare_global_declaration v)
declaration_moves G = with_attributes_moves {bare = bare_unattributed_declaration} G

-- what a function returns
returned_moves : MovesBy return_part (λ w v. bare_returned w ≡ bare_returned v)
returned_moves =
    alike_moves (before_moves SymArrow (then_moves attributes_move (symbol_moves type_specifier)))
    (λ w v h. λ i. (h.0 i, h.1 i))

-- a function without its spans has parts without spans, and its name is a token at any place
function_bare : (name : Token) (parameters : List FormalParameter)
    (returned : Option (Attributes × TypeExpression)) (block : CompoundStatement)
    → bare_function (function_parts name parameters returned block) ≡ function_parts (placed (without_place name) 0 0)
    (map bare_parameter parameters) (option_map bare_returned returned) (bare_compound block)
function_bare name parameters None block = refl
function_bare name parameters (Some r) block = refl

same_function : (w v : FunctionParts) → without_place w.0 ≡ without_place v.0
    → map bare_parameter w.1.0 ≡ map bare_parameter v.1.0
    → option_map bare_returned w.1.1.0 ≡ option_map bare_returned v.1.1.0
    → bare_compound w.1.1.1 ≡ bare_compound v.1.1.1
    → bare_function (function_in w) ≡ bare_function (function_in v)
same_function w v name parameters returned block =
    function_bare w.0 w.1.0 w.1.1.0 w.1.1.1
    ∙ (λ i. function_parts (placed (name i) 0 0) (parameters i) (returned i) (block i))
    ∙ sym (function_bare v.0 v.1.0 v.1.1.0 v.1.1.1)

pub function_declaration_moves : MovesBy (written function_declaration) (Alike function_declaration)
function_declaration_moves = with_attributes_moves {bare = bare_unattributed_declaration}
    (gives_moves {same = SameDeclaration}
    (before_moves KwFn (then_moves (symbol_moves ident) (before_moves SymParenLeft (then_moves (after_moves
    SymParenRight (list_or_none_moves SymComma {bare = bare_parameter} (symbol_moves formal_parameter)))
    (then_moves (optional_moves {bare = bare_returned} returned_moves) (symbol_moves compound_statement))))))
    (λ w v h. ap tree.function (same_function w v h.0 h.1.0 h.1.1.0 h.1.1.1)))

-- ---- directives
-- names one after another
pub names_move : MovesBy (list SymComma (symbol ident)) (λ w v. texts_of w ≡ texts_of v)
names_move = alike_moves (list_moves SymComma name_moves) (λ w v h. texts_mapped w ∙ h ∙ sym (texts_mapped v))

-- a directive without its attributes has no spans
abbrev SameDirective : UnattributedDirective → UnattributedDirective → Type 0
SameDirective w v = w ≡ v

-- a directive after its attributes
pub directive_moves : {g : Rule UnattributedDirective} → MovesBy g SameDirective
    → MovesBy (attributed with_attributes g) (λ w v. bare_directive w ≡ bare_directive v)
directive_moves G = with_attributes_moves {bare = λ d. d} G

-- a name and a further one after `.`, with a comma after them or none
pub diagnostic_directive_moves : MovesBy (written diagnostic_directive) (Alike diagnostic_directive)
diagnostic_directive_moves = with_attributes_moves {bare = λ d. d} (gives_moves {same = SameDirective}
    (then_moves (after_moves SymComma (symbol_moves diagnostic_severity))
    (then_moves name_moves (then_moves (optional_moves (before_moves SymPeriod name_moves))
    (after_moves SymSemicolon (after_moves SymParenRight (optional_moves {bare = without_place} (token_moves _)))))))
    (λ w v h. let severity = ap (λ (k : Kind). severity_of (placed k 0 0)) h.0 in
    let rule = same_rule w.1.0 v.1.0 w.1.1.0 v.1.1.0 h.1.0 h.1.1.0 in
    λ i. tree.diagnostic (record { severity = severity i; rule_name = rule i })))
