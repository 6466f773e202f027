-- The classes of tokens decide whether they are a list of expressions, or one expression.
use Rattle.std.proofs.Common.{◌≡◌, ◌↔◌, ℕ, true, List, [], ◌∷◌, refl, sym, ap, subst, ◌∙◌, Bool, false, IsTrue}
use Rattle.std.specs.Prelude.{Option, Some, None}
use Rattle.grammar.specs.Tokens.{Token}
use Rattle.grammar.specs.Grammar.{Mode.checking, Derives}
use Rattle.grammar.specs.Reading.{Outcome, Outcome.ok, read_all}
use Rattle.wgsl_model.specs.Grammar.Symbols.{Symbol, Symbol.expressions, Symbol.expression, Value}
use Rattle.wgsl_model.specs.Grammar.Written.{written}
use Rattle.wgsl_theory_grammar.specs.Factored.{FactoredSymbol.of, FactoredValue, body}
use Rattle.wgsl_theory_grammar.specs.Tables.{rank_limit, tables}
use Rattle.wgsl_theory_grammar.proofs.WrittenTree.{written_exact}
use Rattle.wgsl_theory_templates.proofs.Swaps.Swapped.{IsOne}
use Rattle.wgsl_lex_templates.specs.Advancing.{classes_left, advances}
use Rattle.wgsl_lex_templates.specs.ExpressionLists.{classes_of, IsExpressionList}
use Rattle.wgsl_lex_templates.proofs.Advancing.Rules.{is_whole, whole_list}
use Rattle.wgsl_lex_templates.proofs.Advancing.Advances.{is_of_expressions, left_some, read_advances}

nothing_left : (m : Option (List ℕ)) → is_whole m ≡ true → m ≡ Some []
nothing_left None e = absurd cc
nothing_left (Some []) e = refl
nothing_left (Some (c ∷ cs)) e = absurd cc

no_tokens : (ts : List Token) → classes_of ts ≡ [] → ts ≡ []
no_tokens [] e = refl
no_tokens (t ∷ ts) e = absurd cc

-- a symbol leaves nothing of the classes just where it is derived from the tokens
decided_by : (n : Symbol) → is_of_expressions (of n) ≡ true → (cs : List ℕ) (ts : List Token)
    → classes_of ts ≡ cs
    → (is_whole (advances (of n) cs) ≡ true) ↔ ((v : Value n) × Derives checking written n v ts)
decided_by n h cs ts e =
    let read = read_all tables checking body rank_limit (of n) ts in
    let left : classes_left read ≡ advances (of n) cs = read_advances (of n) h ts ∙ ap (advances (of n)) e in (
      (λ w. let o = left_some read [] (left ∙ nothing_left (advances (of n) cs) w) in
          (o.0, (written_exact checking n o.0 ts).0 (o.2 ∙ ap (λ (us : List Token). ok o.0 us) (no_tokens o.1 o.3)))),
      (λ d. ap is_whole (sym left ∙ ap (λ (m : Outcome (FactoredValue (of n))). classes_left m)
          ((written_exact checking n d.0 ts).1 d.1))),
    )

pub decided : (cs : List ℕ) (ts : List Token) → classes_of ts ≡ cs → (whole_list cs ≡ true) ↔ IsExpressionList ts
unfolding whole_list
decided = decided_by expressions refl

pub one_decided : (cs : List ℕ) (ts : List Token) → classes_of ts ≡ cs
    → (is_whole (advances (of expression) cs) ≡ true) ↔ IsOne ts
one_decided = decided_by expression refl

pub one_by : (cs : List ℕ) (ts : List Token) (b : Bool) → classes_of ts ≡ cs
    → is_whole (advances (of expression) cs) ≡ b → IsTrue b ↔ IsOne ts
one_by cs ts b e f = subst (λ (x : Bool). (x ≡ true) ↔ IsOne ts) f (one_decided cs ts e)

pub refused : (cs : List ℕ) (ts : List Token) → classes_of ts ≡ cs → whole_list cs ≡ false
    → IsTrue false ↔ IsExpressionList ts
refused cs ts e f = subst (λ (b : Bool). (b ≡ true) ↔ IsExpressionList ts) f (decided cs ts e)
