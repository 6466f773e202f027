-- A template list of one name.
use Rattle.std.proofs.Common.{◌≡◌, Bool, true, false, refl, List, [], ◌∷◌}
use Rattle.grammar.specs.Tokens.{Token}
use Rattle.grammar.specs.Grammar.{Mode.checking}
use Rattle.grammar.specs.Reading.{Outcome, Outcome.ok, Outcome.stuck, Outcome.bad, Outcome.out, read_all}
use Rattle.wgsl_model.specs.Tokens.ClassTable.{TemplateArgsStart, TemplateArgsEnd, Ident}
use Rattle.wgsl_model.specs.Tokens.Kind.{plain, placed}
use Rattle.wgsl_model.specs.Trees.Expressions.{ExpressionNode}
use Rattle.wgsl_model.specs.Grammar.Symbols.{Symbol.expressions}
use Rattle.wgsl_theory_grammar.specs.Factored.{FactoredSymbol.of, body}
use Rattle.wgsl_theory_grammar.specs.Tables.{tables, rank_limit}
use Rattle.wgsl_theory_grammar.proofs.WrittenTree.{written_exact}
use Rattle.wgsl_theory_grammar.proofs.Tokens.Decided.{IsList}

abbrev pub name_start : Token
name_start = placed (plain TemplateArgsStart) 0 0

abbrev pub one_name : Token
one_name = placed (plain Ident) 0 0

abbrev pub name_end : Token
name_end = placed (plain TemplateArgsEnd) 0 0

-- all tokens were read
abbrev is_read : Outcome (List ExpressionNode) → Bool
is_read (ok v []) = true
is_read o = false

read_list : (ts : List Token) (o : Outcome (List ExpressionNode))
    → read_all tables checking body rank_limit (of expressions) ts ≡ o → is_read o ≡ true → IsList ts
read_list ts (ok v []) e r = (v, (written_exact checking expressions v ts).0 e)
read_list ts (ok v (t ∷ us)) e r = absurd cc
read_list ts (stuck us) e r = absurd cc
read_list ts (bad x us) e r = absurd cc
read_list ts out e r = absurd cc

-- one name is a list of expressions
pub name_list : IsList (one_name ∷ [])
name_list = read_list (one_name ∷ [])
    (read_all tables checking body rank_limit (of expressions) (one_name ∷ [])) refl refl
