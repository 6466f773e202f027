-- How the name of a rule is written: as the tokens that it was read from, since no name in it has a
-- `.`.
use Rattle.std.proofs.Common.{◌≡◌, ℕ, List, [], ◌∷◌, ◌++◌, Option, Some, None, refl, sym, ap, subst, ◌∙◌}
use Rattle.std.specs.Prelude.{codes, option_map}
use mathlib.Core.List.{append_assoc, append-nil}
use Rattle.wgsl_model.specs.Tokens.ClassTable.{SymPeriod}
use Rattle.wgsl_model.specs.Tokens.Kind.{Kind, plain}
use Rattle.wgsl_model.specs.Tokens.Raw.{kind_of_word}
use Rattle.wgsl_model.specs.Trees.Expressions.{ExpressionNode, expression_node, Expression, named_component, type_or_identifier, TypeExpression, type_expression, no_template, template}
use Rattle.wgsl_model.specs.Grammar.Checks.{untemplated_name_in, rule_name, rule_name_in, Arguments}
use Rattle.wgsl_theory_reread.specs.CanonicalExpressions.{expression_tokens, expression_node_tokens}
use Rattle.wgsl_theory_reread.specs.CanonicalAttributes.{rule_tokens, rule_tokens_from}
use Rattle.wgsl_theory_reread.proofs.Words.{NoPeriod}
use Rattle.wgsl_theory_reread.proofs.Names.NamedWords.{bare_name_in_tokens}

-- ---- names without `.`
-- a type without a template
abbrev pub IsPlainType : TypeExpression → Type 0
IsPlainType (type_expression name no_template) = NoPeriod name
IsPlainType (type_expression name (template es)) = Unit {0}

-- an expression, if it is a bare name
abbrev pub IsPlainName : Expression → Type 0
IsPlainName (type_or_identifier t) = IsPlainType t
IsPlainName e = Unit {0}

-- an expression, if it is the name of a rule
abbrev pub IsPlainRule : Expression → Type 0
IsPlainRule (named_component (expression_node e s) name) = IsPlainName e
IsPlainRule e = IsPlainName e

-- the same of a node, of nodes, and of an attribute's arguments
abbrev pub PlainNode : ExpressionNode → Type 0
PlainNode (expression_node e s) = IsPlainRule e

abbrev pub PlainNodes : List ExpressionNode → Type 0
PlainNodes [] = Unit {0}
PlainNodes (e ∷ es) = PlainNode e × PlainNodes es

abbrev pub PlainArguments : Arguments → Type 0
PlainArguments None = Unit {0}
PlainArguments (Some es) = PlainNodes es

-- ---- how the name of a rule is written
word_from : (before text : List ℕ) (rest : List Kind) → NoPeriod text
    → rule_tokens_from before text rest ≡ kind_of_word (before ++ text) ∷ rest
word_from before [] rest h = ap (λ (z : List ℕ). kind_of_word z ∷ rest) (sym (append-nil before))
word_from before (c ∷ cs) rest h = rw h.0 (word_from (before ++ (c ∷ [])) cs rest h.1
    ∙ ap (λ (z : List ℕ). kind_of_word z ∷ rest) (append_assoc before (c ∷ []) cs))

pair_from : (before first second : List ℕ) (rest : List Kind) → NoPeriod first
    → rule_tokens_from before (first ++ (codes "." ++ second)) rest
    ≡ kind_of_word (before ++ first) ∷ (plain SymPeriod ∷ (kind_of_word second ∷ rest))
pair_from before [] second rest h =
    ap (λ (z : List ℕ). kind_of_word z ∷ (plain SymPeriod ∷ (kind_of_word second ∷ rest)))
    (sym (append-nil before))
pair_from before (c ∷ cs) second rest h =
    rw h.0 (pair_from (before ++ (c ∷ [])) cs second rest h.1 ∙ ap (λ (z : List ℕ). kind_of_word z
    ∷ (plain SymPeriod ∷ (kind_of_word second ∷ rest))) (append_assoc before (c ∷ []) cs))

-- a name, and two with `.` between
pub word_tokens : (text : List ℕ) (rest : List Kind) → NoPeriod text → rule_tokens text rest ≡ kind_of_word text ∷ rest
word_tokens text rest h = word_from [] text rest h

pub pair_tokens : (first second : List ℕ) (rest : List Kind) → NoPeriod first
    → rule_tokens (first ++ (codes "." ++ second)) rest
    ≡ kind_of_word first ∷ (plain SymPeriod ∷ (kind_of_word second ∷ rest))
pair_tokens first second rest h = pair_from [] first second rest h

-- a bare name has no `.`
bare_plain : (e : Expression) (name : List ℕ) → untemplated_name_in e ≡ Some name → IsPlainName e → NoPeriod name
bare_plain (type_or_identifier (type_expression word no_template)) name e h =
    let same : word ≡ name = cc in subst NoPeriod same h
bare_plain (type_or_identifier (type_expression word (template es))) name e h = absurd (cc)
bare_plain e name q h = absurd (cc)

-- the name of a rule is written as its expression
abbrev WritesRule : Expression → Type 0
WritesRule e = (text : List ℕ) → rule_name_in e ≡ Some text → IsPlainRule e → (rest : List Kind)
    → expression_tokens e rest ≡ rule_tokens text rest

bare_written : (e : Expression) (text : List ℕ) → untemplated_name_in e ≡ Some text → IsPlainName e
    → (rest : List Kind) → expression_tokens e rest ≡ rule_tokens text rest
bare_written e text q h rest = bare_name_in_tokens e text q rest ∙ sym (word_tokens text rest (bare_plain e text q h))

rule_written : (e : Expression) → WritesRule e
rule_written (named_component (expression_node base s) name) text q h rest = at (untemplated_name_in base) refl q where
  at : (o : Option (List ℕ)) → untemplated_name_in base ≡ o
      → option_map (λ (first : List ℕ). first ++ (codes "." ++ name)) o ≡ Some text
      → expression_tokens base (plain SymPeriod ∷ (kind_of_word name ∷ rest)) ≡ rule_tokens text rest
  at None e f = absurd (cc)
  at (Some first) e f =
      let same : first ++ (codes "." ++ name) ≡ text = cc in
      bare_name_in_tokens base first e (plain SymPeriod ∷ (kind_of_word name ∷ rest))
      ∙ sym (pair_tokens first name rest (bare_plain base first e h))
      ∙ ap (λ (z : List ℕ). rule_tokens z rest) same
rule_written (type_or_identifier t) text q h rest = bare_written (type_or_identifier t) text q h rest
rule_written e text q h rest = absurd (cc)

pub rule_name_tokens : (e : ExpressionNode) (text : List ℕ) → rule_name e ≡ Some text → PlainNode e
    → (rest : List Kind) → expression_node_tokens e rest ≡ rule_tokens text rest
rule_name_tokens (expression_node e s) text q h rest = rule_written e text q h rest
