-- What a list of tokens derives does not depend on where they are: tokens of the same kinds derive
-- the same value, ignoring spans.
use Rattle.std.proofs.Common.{◌≡◌, List, [], map, subst}
use Rattle.grammar.specs.Tokens.{Token}
use Rattle.grammar.specs.Grammar.{Mode.checking, Derives}
use Rattle.wgsl_model.specs.Trees.Expressions.{ExpressionNode}
use Rattle.wgsl_model.specs.Trees.Units.{TranslationUnit}
use Rattle.wgsl_model.specs.Trees.StatementsWithoutSpans.{bare_unit}
use Rattle.wgsl_model.specs.Grammar.Symbols.{Symbol, expressions, unit, Value}
use Rattle.wgsl_model.specs.Grammar.Written.{written}
use Rattle.wgsl_theory_reread.specs.CanonicalUnits.{without_place}
use Rattle.wgsl_theory_reread.proofs.Again.{D, Found}
use Rattle.wgsl_theory_reread.proofs.Derived.{by_derivation}
use Rattle.wgsl_theory_reread.proofs.Rules.{rolled}
use Rattle.wgsl_theory_reread.proofs.DerivedAgain.{none_left}
use Rattle.wgsl_theory_tidy.proofs.Moved.Alike.{Alike, Moved}
use Rattle.wgsl_theory_tidy.proofs.Moved.RuleTerms.{rules}

-- what a symbol derives is derived wherever the tokens are
pub moved : (n : Symbol) (v : Value n) (xs ys : List Token) → D n v xs ys → Moved n v xs ys
moved = by_derivation Moved (λ n v xs ys here d us e. rolled {n = n} ((rules n).moved v xs ys d us e))

-- what is derived up to a list without kinds is derived from the whole list
whole : (n : Symbol) (v : Value n) (us : List Token)
    → (found : Found (D n) (λ w. Alike n w v) us []) → Derives checking written n found.value us
whole n v us found = subst (λ (rest : List Token). D n found.value us rest)
    (none_left found.rest found.kinds) found.derived

-- tokens of the kinds that derive a list of expressions derive one
pub moved_list : (v : List ExpressionNode) (ts us : List Token)
    → Derives checking written expressions v ts → map without_place us ≡ map without_place ts
    → (w : List ExpressionNode) × Derives checking written expressions w us
moved_list v ts us d e = let found = moved expressions v ts [] d us e in (found.value, whole expressions v us found)

-- tokens of the kinds that derive a module derive the same module, ignoring spans
pub moved_unit : (u : TranslationUnit) (ts us : List Token) → Derives checking written unit u ts
    → map without_place us ≡ map without_place ts
    → (w : TranslationUnit) × Derives checking written unit w us × (bare_unit w ≡ bare_unit u)
moved_unit u ts us d e = let found = moved unit u ts [] d us e in (found.value, whole unit u us found, found.like)
