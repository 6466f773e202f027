-- Renamed tokens of a module derive the renamed module.
use Rattle.std.proofs.Common.{List, [], subst}
use Rattle.grammar.specs.Tokens.{Token}
use Rattle.grammar.specs.Grammar.{Mode.checking, Means, Derives}
use Rattle.grammar.proofs.Reading.Depth.{roll}
use Rattle.wgsl_model.specs.Trees.Units.{TranslationUnit}
use Rattle.wgsl_model.specs.Grammar.Symbols.{Symbol, unit, Value}
use Rattle.wgsl_model.specs.Grammar.Written.{written}
use Rattle.wgsl_theory_reread.proofs.Again.{D}
use Rattle.wgsl_theory_reread.proofs.Derived.{by_derivation}
use Rattle.wgsl_model_names.specs.Renamed.{Renaming, renamed_unit}
use Rattle.wgsl_model_names.specs.RenamedTokens.{AreRenamedTokens, FixesUnderscore}
use Rattle.wgsl_theory_names.proofs.Derived.Renews.{Renewed, Renames}
use Rattle.wgsl_theory_names.proofs.Derived.Ways.{kept_by}
use Rattle.wgsl_theory_names.proofs.Derived.RuleTerms.{rules}

-- what the right side of a symbol derives, the symbol derives
rolled : {f : Renaming} {n : Symbol} {Like : Value n → Type 0} {xs zs : List Token}
    → Renewed f (Means checking D (written n)) Like xs zs → Renewed f (D n) Like xs zs
rolled {n = n} {zs = zs} r = record {
  value = r.value;
  tokens = r.tokens;
  renamed = r.renamed;
  like = r.like;
  derived = roll checking written n r.value r.tokens zs r.derived;
}

-- what a symbol derives of renamed tokens
pub renames : (f : Renaming) → FixesUnderscore f → (n : Symbol) (v : Value n) (xs ys : List Token)
    → D n v xs ys → Renames f n v xs ys
renames f fixes = by_derivation (Renames f) (λ n v xs ys here d. (
  λ zs e. rolled {n = n} ((kept_by (written n)).renames fixes v xs ys d zs e),
  λ zs e. rolled {n = n} ((rules n).renames fixes v xs ys d zs e),
))

pub unit_renames : (f : Renaming) → FixesUnderscore f → (u : TranslationUnit) (ts : List Token)
    → Derives checking written unit u ts
    → (us : List Token) × AreRenamedTokens f ts us × Derives checking written unit (renamed_unit f u) us
unit_renames f fixes u ts d =
    let r = (renames f fixes unit u ts [] d).1 [] tt in (
      r.tokens,
      r.renamed,
      subst (λ (w : TranslationUnit). D unit w r.tokens []) r.like r.derived,
    )
