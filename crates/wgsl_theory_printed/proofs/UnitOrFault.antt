-- Every text is a unit or has a named fault, never both, and each only once.
use Rattle.std.proofs.Common.{◌≡◌, ℕ, List, ◌⊎◌, inl, inr, sym, subst}
use Rattle.grammar.specs.Tokens.{Token, Fault}
use Rattle.grammar.specs.Grammar.{Mode.checking, Derives}
use Rattle.grammar.specs.Endings.{Ending, Ending.finished, Answer, Answer.accepted, Answer.denied}
use Rattle.wgsl_model.specs.Trees.Units.{TranslationUnit}
use Rattle.wgsl_model.specs.Grammar.Symbols.{Symbol.unit}
use Rattle.wgsl_model.specs.Grammar.Written.{written}
use Rattle.wgsl_model.specs.Faults.NamedFault.{IsNamed}
use Rattle.wgsl_model.specs.Tokens.TokenList.{IsTokenList}
use Rattle.wgsl_model.specs.Program.{IsUnit, IsFaultOf}
use Rattle.wgsl_theory_grammar.specs.Answers.{answer_of, IsAnswer}
use Rattle.wgsl_theory_grammar.proofs.Faults.Answers.{answers_are_true}
use Rattle.wgsl_theory_grammar.proofs.Faults.NamedOnce.{named_once, named_excludes}
use Rattle.wgsl_theory_grammar.proofs.WrittenTree.{written_one_tree}
use Rattle.wgsl_theory_grammar.proofs.Tokens.Lists.{token_list_exists, token_list_unique}

-- a text derives a unit, or has a fault
abbrev UnitOrFault : List ℕ → Type 0
UnitOrFault source = ((u : TranslationUnit) × IsUnit source u) ⊎ ((x : Fault) × IsFaultOf source x)

of_answer : (source : List ℕ) (ts : List Token) (e : Ending) → IsTokenList source ts e
    → (a : Answer TranslationUnit) → IsAnswer unit ts e a → UnitOrFault source
of_answer source ts e l (accepted u) (ended, d) = inl (u, (ts, subst (IsTokenList source ts) ended l, d))
of_answer source ts e l (denied x) named = inr (x, (ts, e, l, named))

pub unit_or_fault : (source : List ℕ) → UnitOrFault source
unit_or_fault source =
    let l = token_list_exists source in
    of_answer source l.0 l.1 l.2 (answer_of unit l.0 l.1) (answers_are_true unit l.0 l.1)

pub not_both : (source : List ℕ) (u : TranslationUnit) (x : Fault) → IsUnit source u → IsFaultOf source x → ⊥
not_both source u x (ts, l, d) (us, e, k, named) =
    let same = token_list_unique source ts us finished e l k in
    named_excludes unit us x (subst (λ (f : Ending). IsNamed unit us f x) (sym same.1) named) u
    (subst (Derives checking written unit u) same.0 d)

pub one_unit : (source : List ℕ) (u v : TranslationUnit) → IsUnit source u → IsUnit source v → u ≡ v
one_unit source u v (ts, l, d) (us, k, e) =
    written_one_tree checking unit u v us
    (subst (Derives checking written unit u) (token_list_unique source ts us finished finished l k).0 d) e

pub one_fault : (source : List ℕ) (x y : Fault) → IsFaultOf source x → IsFaultOf source y → x ≡ y
one_fault source x y (ts, e, l, h) (us, f, k, i) =
    let same = token_list_unique source ts us e f l k in
    named_once unit us f x y (subst (λ (g : Ending). IsNamed unit us g x) same.1
    (subst (λ (vs : List Token). IsNamed unit vs e x) same.0 h)) i
