-- What is met at the tokens of what each symbol derives.
use Rattle.std.proofs.Common.{◌≡◌, ℕ, List, [], ◌∷◌, ◌++◌}
use Rattle.grammar.specs.Tokens.{Token}
use Rattle.wgsl_model.specs.Tokens.ClassTable.{Ident}
use Rattle.wgsl_model.specs.Trees.Expressions.{ExpressionNode, Expression, FunctionCall, TypeExpression, expressions_of}
use Rattle.wgsl_model.specs.Grammar.Symbols.{Symbol, Value, ident, type_specifier, template_list, expressions, call, arguments, literal, primary_expression, singular_expression, component, unary_expression, multiplicative_expression, negated_expression, additive_expression, shift_expression, relational_expression, expression, lhs_expression}
use Rattle.wgsl_model_names.specs.Scopes.{Names}
use Rattle.wgsl_model_names.specs.Names.{names_in, names_in_expression, names_in_all, names_in_call, names_in_type}
use Rattle.wgsl_model_minify.specs.Occurrences.{Occurrence, occurrences}
use Rattle.wgsl_model_places.specs.Roles.{Role}
use Rattle.wgsl_model_places.specs.Items.{attribute, State}
use Rattle.wgsl_model_places.specs.Steps.{with_item, going_on}
use Rattle.wgsl_theory_places.proofs.Meets.Parts.{Met, Ready, kind_of, is_plain}
use Rattle.std.specs.Prelude.{true}

-- what a name is, and what is met by it
abbrev pub Kind : Type 0
Kind = List ℕ → Names

abbrev pub Meeting : Type 0 → Type 0
Meeting A = Kind → A → List Occurrence

abbrev pub of_node : Meeting ExpressionNode
of_node kind e = occurrences (names_in kind e)

abbrev pub of_nodes : Meeting (List ExpressionNode)
of_nodes kind es = occurrences (names_in_all kind (expressions_of es))

abbrev pub of_type : Meeting TypeExpression
of_type kind ty = occurrences (names_in_type kind ty)

abbrev pub of_call : Meeting FunctionCall
of_call kind c = occurrences (names_in_call kind c)

abbrev pub of_nothing : {A : Type 0} → Meeting A
of_nothing kind a = []

-- in an item in which names are so
abbrev pub MetBy : {A : Type 0} → Meeting A → A → List Token → List Token → Type 0
MetBy os v xs ys = (σ : State) → Ready σ → Met σ (going_on σ) (os (kind_of σ.item.role) v) xs ys

-- a component after a base
pub record MetAfter (c : ExpressionNode → Expression) (xs ys : List Token) : Type 0 where
  pub more : Kind → List Occurrence
  pub after : (kind : Kind) (base : ExpressionNode)
      → occurrences (names_in_expression kind (c base)) ≡ of_node kind base ++ more kind
  pub met : (σ : State) → Ready σ → Met σ (going_on σ) (more (kind_of σ.item.role)) xs ys

-- the arguments of an attribute
abbrev pub MetInAttribute : List ExpressionNode → List Token → List Token → Type 0
MetInAttribute es xs ys = (σ : State) (role : Role) → is_plain role ≡ true → σ.last ≡ attribute role
    → Met σ (with_item σ.item σ) (of_nodes (kind_of role) es) xs ys

abbrev pub Known : (n : Symbol) → Value n → List Token → List Token → Type 0
Known ident v xs ys = (xs ≡ v ∷ ys) × (v.class ≡ Ident)
Known type_specifier v xs ys = MetBy of_type v xs ys
Known template_list v xs ys = MetBy of_nodes v xs ys
Known expressions v xs ys = MetBy of_nodes v xs ys
Known call v xs ys = MetBy of_call v xs ys
Known arguments v xs ys = MetBy of_nodes v xs ys × MetInAttribute v xs ys
Known literal v xs ys = MetBy of_nothing v xs ys
Known primary_expression v xs ys = MetBy of_node v xs ys
Known singular_expression v xs ys = MetBy of_node v xs ys
Known component v xs ys = MetAfter v xs ys
Known unary_expression v xs ys = MetBy of_node v xs ys
Known multiplicative_expression v xs ys = MetBy of_node v xs ys
Known negated_expression v xs ys = MetBy of_node v xs ys
Known additive_expression v xs ys = MetBy of_node v xs ys
Known shift_expression v xs ys = MetBy of_node v xs ys
Known relational_expression v xs ys = MetBy of_node v xs ys
Known expression v xs ys = MetBy of_node v xs ys
Known lhs_expression v xs ys = MetBy of_node v xs ys
Known n v xs ys = Unit {0}
