-- How a right side derives what is sound, by the ways to write it.
use Rattle.std.proofs.Common.{ℕ, List, [], ◌∷◌, ◌++◌, Some, None}
use Rattle.grammar.specs.Tokens.{Token}
use Rattle.grammar.specs.Notation.{optional, many, several, separated, list, list_or_none}
use Rattle.wgsl_model.specs.Trees.Expressions.{ExpressionNode}
use Rattle.wgsl_model.specs.Trees.Statements.{StatementNode, statement_node}
use Rattle.wgsl_model.specs.Grammar.Checks.{attribute_node}
use Rattle.wgsl_model.specs.Grammar.TokenValues.{text_of}
use Rattle.wgsl_model.specs.Grammar.Symbols.{Symbol, Rule, ident, type_specifier, template_list, expressions, call, arguments, literal, primary_expression, singular_expression, component, unary_expression, multiplicative_expression, negated_expression, additive_expression, shift_expression, relational_expression, expression, lhs_expression, attribute, compound_statement, statement, const_assert, switch_clause, case_selector, continuing_statement, for_init, for_update, var_template, typed_ident, struct_member, formal_parameter, global_declaration, var_declaration, const_declaration, override_declaration, alias_declaration, struct_declaration, function_declaration, diagnostic_severity, global_directive, enable_directive, requires_directive, diagnostic_directive, unit, Value}
use Rattle.wgsl_theory_reread.specs.CanonicalUnits.{without_place}
use Rattle.wgsl_theory_reread.proofs.Gives.{GivesBy, none_sound, or_sound, gives_sound, chain_sound, sign_before, sign_after}
use Rattle.wgsl_theory_printed.proofs.Spelling.Ends.{IsNameText}
use Rattle.wgsl_theory_printed.proofs.Fits.SoundExpressions.{IsSoundLiteral, IsPrimary, IsPrimaryNode, IsOperandNode, IsSoundExpression, IsSoundNode, IsSoundCall, IsSoundType}
use Rattle.wgsl_theory_printed.proofs.Fits.FittingAttributes.{IfSome, Every, IsSoundAttribute, Every-following, AreSoundAttributes}
use Rattle.wgsl_theory_printed.proofs.Fits.FittingStatements.{EndsWithName, EndsWithNameNode, IsSoundSelector}
use Rattle.wgsl_theory_printed.proofs.Fits.FittingNodes.{IsSoundStatement, IsSoundCompound, IsSoundClause, IsSoundContinuing}
use Rattle.wgsl_theory_printed.proofs.Fits.FittingUnits.{IsSoundDirective, IsSoundMember, IsSoundParameter, IsSoundGlobal, IsSoundUnit}
use Rattle.wgsl_theory_printed.proofs.Sound.Scanned.{IsScanned}

abbrev pub IsSoundStatementNode : StatementNode → Type 0
IsSoundStatementNode (statement_node s span) = IsSoundStatement s

-- what holds of what each symbol derives
abbrev pub Sound : (n : Symbol) → Value n → Type 0
Sound ident t = IsNameText (text_of t)
Sound type_specifier v = IsSoundType v
Sound template_list v = Every IsSoundNode v
Sound expressions v = Every IsSoundNode v
Sound call v = IsSoundCall v
Sound arguments v = Every IsSoundNode v
Sound literal v = IsSoundLiteral v
Sound primary_expression v = IsPrimaryNode v × IsSoundNode v
Sound singular_expression v = IsPrimaryNode v × IsSoundNode v
Sound component v = (base : ExpressionNode) → IsPrimaryNode base → IsSoundNode base
    → IsPrimary (v base) × EndsWithName (v base) × IsSoundExpression (v base)
Sound unary_expression v = IsOperandNode v × IsSoundNode v
Sound multiplicative_expression v = IsSoundNode v
Sound negated_expression v = IsSoundNode v
Sound additive_expression v = IsSoundNode v
Sound shift_expression v = IsSoundNode v
Sound relational_expression v = IsSoundNode v
Sound expression v = IsSoundNode v
Sound lhs_expression v = IsOperandNode v × EndsWithNameNode v × IsSoundNode v
Sound attribute v = IsSoundAttribute (attribute_node v).node
Sound compound_statement v = IsSoundCompound v
Sound statement v = IsSoundStatementNode v
Sound const_assert v = AreSoundAttributes v.attributes × IsSoundNode v.node.expression
Sound switch_clause v = IsSoundClause v
Sound case_selector v = IsSoundSelector v
Sound continuing_statement v = IsSoundContinuing v
Sound for_init v = IsSoundStatementNode v
Sound for_update v = IsSoundStatementNode v
Sound var_template v = Unit {0}
Sound typed_ident v = IsNameText v.0 × IfSome IsSoundType v.1
Sound struct_member v = IsSoundMember v
Sound formal_parameter v = IsSoundParameter v
Sound global_declaration v = IsSoundGlobal v.node
Sound var_declaration v = IsSoundGlobal v
Sound const_declaration v = IsSoundGlobal v
Sound override_declaration v = IsSoundGlobal v
Sound alias_declaration v = IsSoundGlobal v
Sound struct_declaration v = IsSoundGlobal v
Sound function_declaration v = IsSoundGlobal v
Sound diagnostic_severity v = Unit {0}
Sound global_directive v = IsSoundDirective v
Sound enable_directive v = IsSoundDirective v
Sound requires_directive v = IsSoundDirective v
Sound diagnostic_directive v = IsSoundDirective v
Sound unit v = IsSoundUnit v
Sound n v = IsSoundStatement v

-- what a right side derives from tokens of a text, and what a symbol does
abbrev pub IsFromText : Token → Type 0
IsFromText t = IsScanned (without_place t)

abbrev pub Gives : {A : Type 0} → Rule A → (A → Type 0) → Type 0
Gives g P = GivesBy IsFromText Sound g P

pub optional_sound : {A : Type 0} {g : Rule A} {P : A → Type 0} → Gives g P → Gives (optional g) (IfSome P)
optional_sound {A = A} {P = P} G = or_sound (gives_sound G (λ (a : A). Some a) (IfSome P) (λ a p. p))
    (none_sound None (IfSome P) tt)

pub many_sound : {A : Type 0} {g : Rule A} {P : A → Type 0} → Gives g P → Gives (many g) (Every P)
many_sound {A = A} {P = P} G = chain_sound (none_sound [] (Every P) tt) G
    (λ (xs : List A) (x : A) s. xs ++ (x ∷ [])) (λ xs x s h k. Every-following P xs x h k)

pub several_sound : {A : Type 0} {g : Rule A} {P : A → Type 0} → Gives g P → Gives (several g) (Every P)
several_sound {A = A} {P = P} G =
    chain_sound (gives_sound G (λ (x : A). x ∷ []) (Every P) (λ a p. (p, tt))) G
    (λ (xs : List A) (x : A) s. xs ++ (x ∷ [])) (λ xs x s h k. Every-following P xs x h k)

separated_sound : {A : Type 0} (c : ℕ) {g : Rule A} {P : A → Type 0} → Gives g P → Gives (separated c g) (Every P)
separated_sound {A = A} c {P = P} G =
    chain_sound (gives_sound G (λ (x : A). x ∷ []) (Every P) (λ a p. (p, tt))) (sign_before c G)
    (λ (xs : List A) (x : A) s. xs ++ (x ∷ [])) (λ xs x s h k. Every-following P xs x h k)

pub list_sound : {A : Type 0} (c : ℕ) {g : Rule A} {P : A → Type 0} → Gives g P → Gives (list c g) (Every P)
list_sound c G = or_sound (separated_sound c G) (sign_after c (separated_sound c G))

pub list_or_none_sound : {A : Type 0} (c : ℕ) {g : Rule A} {P : A → Type 0} → Gives g P
    → Gives (list_or_none c g) (Every P)
list_or_none_sound c {P = P} G = or_sound (list_sound c G) (none_sound [] (Every P) tt)
