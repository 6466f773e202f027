-- The tokens that printed attributes have, written from their trees before the tokens that follow
-- them. A name is the token that its word is: `const`, `if`, `else` and `diagnostic` are keywords,
-- and `type` is a reserved word.
use Rattle.std.specs.Prelude.{ℕ, ◌==◌, List, [], ◌∷◌, ◌++◌, if◌then◌else◌, codes}
use Rattle.wgsl_model.specs.Tokens.ClassTable.{SymAttr, SymComma, SymOr, SymParenLeft, SymParenRight, SymPeriod}
use Rattle.wgsl_model.specs.Tokens.Kind.{Kind, plain}
use Rattle.wgsl_model.specs.Tokens.Raw.{kind_of_word}
use Rattle.wgsl_model.specs.Trees.NamedValues.{InterpolationSampling, severity_text, interpolation_type_text, interpolation_sampling_text, builtin_value_text}
use Rattle.wgsl_model.specs.Trees.Spanned.{Spanned}
use Rattle.wgsl_model.specs.Trees.Expressions.{ExpressionNode, TypeExpression}
use Rattle.wgsl_model.specs.Trees.Attributes.{one_argument_text, no_argument_text, Attribute, with_argument, without_argument, builtin, diagnostic, interpolate, workgroup_size, type_constraint, custom, Attributes}
use Rattle.wgsl_theory_reread.specs.CanonicalExpressions.{Writer, optional_tokens, all_tokens, list_tokens, word_token, expression_node_tokens, type_tokens}

-- a part in parentheses
abbrev pub parenthesize : {A : Type 0} → Writer A → Writer A
parenthesize write a rest = plain SymParenLeft ∷ write a (plain SymParenRight ∷ rest)

-- a further argument after a comma
abbrev pub after_comma : {A : Type 0} → Writer A → Writer A
after_comma write a rest = plain SymComma ∷ write a rest

-- the name of a rule, from the bytes that are before and those that are left: a word, or two with
-- `.` between
abbrev pub rule_tokens_from : List ℕ → List ℕ → List Kind → List Kind
rule_tokens_from before [] rest = kind_of_word before ∷ rest
rule_tokens_from before (c ∷ cs) rest = if c == 46
    then kind_of_word before ∷ (plain SymPeriod ∷ (kind_of_word cs ∷ rest))
    else rule_tokens_from (before ++ (c ∷ [])) cs rest

-- the name of a rule
abbrev pub rule_tokens : Writer (List ℕ)
rule_tokens rule rest = rule_tokens_from [] rule rest

-- further types, each after `|`
abbrev pub further_types_tokens : Writer (List TypeExpression)
further_types_tokens [] rest = rest
further_types_tokens (t ∷ ts) rest = plain SymOr ∷ type_tokens t (further_types_tokens ts rest)

-- types with `|` between each two
abbrev pub types_tokens : Writer (List TypeExpression)
types_tokens [] rest = rest
types_tokens (t ∷ ts) rest = type_tokens t (further_types_tokens ts rest)

-- arguments in parentheses
abbrev pub arguments_tokens : Writer (List ExpressionNode)
arguments_tokens = parenthesize (list_tokens expression_node_tokens)

-- an attribute without its `@`
abbrev pub named_attribute_tokens : Attribute → List Kind → List Kind
named_attribute_tokens (with_argument name e) rest = kind_of_word (one_argument_text name)
    ∷ parenthesize expression_node_tokens e rest
named_attribute_tokens (without_argument name) rest = kind_of_word (no_argument_text name) ∷ rest
named_attribute_tokens (builtin b) rest = kind_of_word (codes "builtin")
    ∷ parenthesize word_token (builtin_value_text b) rest
named_attribute_tokens (diagnostic d) rest = kind_of_word (codes "diagnostic") ∷ (plain SymParenLeft
    ∷ (kind_of_word (severity_text d.severity) ∷ after_comma rule_tokens d.rule (plain SymParenRight ∷ rest)))
named_attribute_tokens (interpolate i) rest =
    kind_of_word (codes "interpolate") ∷ (plain SymParenLeft
    ∷ (kind_of_word (interpolation_type_text i.ty) ∷ optional_tokens (after_comma (λ (s : InterpolationSampling).
    word_token (interpolation_sampling_text s))) i.sampling (plain SymParenRight ∷ rest)))
named_attribute_tokens (workgroup_size w) rest =
    kind_of_word (codes "workgroup_size")
    ∷ (plain SymParenLeft ∷ expression_node_tokens w.x (optional_tokens (after_comma expression_node_tokens)
    w.y (optional_tokens (after_comma expression_node_tokens) w.z (plain SymParenRight ∷ rest))))
named_attribute_tokens (type_constraint t) rest = kind_of_word (codes "type") ∷ (plain SymParenLeft
    ∷ (kind_of_word t.ident ∷ after_comma types_tokens t.variants (plain SymParenRight ∷ rest)))
named_attribute_tokens (custom c) rest = kind_of_word c.name ∷ optional_tokens arguments_tokens c.arguments rest

-- an attribute
abbrev pub attribute_tokens : Writer (Spanned Attribute)
attribute_tokens a rest = plain SymAttr ∷ named_attribute_tokens a.node rest

-- attributes one after another
abbrev pub attributes_tokens : Writer Attributes
attributes_tokens = all_tokens attribute_tokens
