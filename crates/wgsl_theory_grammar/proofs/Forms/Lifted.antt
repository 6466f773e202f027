-- A written right side means the same over the factored symbols.
use Rattle.std.proofs.Common.{List, inl, inr}
use Rattle.grammar.specs.Tokens.{Token}
use Rattle.grammar.specs.Grammar.{Grammar.empty, Grammar.token, Grammar.sequence, Grammar.choice, Grammar.mapped, Grammar.node, Grammar.checked, Grammar.symbol, Grammar.left_chain, Mode, Means}
use Rattle.grammar.proofs.Reading.Depth.{Kept, chain_mono}
use Rattle.wgsl_model.specs.Grammar.Symbols.{Symbol, Value, Rule}
use Rattle.wgsl_theory_grammar.specs.Factored.{FactoredSymbol, FactoredSymbol.of, FactoredValue, lifted}

abbrev pub WrittenRelation : Type 1
WrittenRelation = (n : Symbol) → Value n → List Token → List Token → Type 0

abbrev pub FactoredRelation : Type 1
FactoredRelation = (n : FactoredSymbol) → FactoredValue n → List Token → List Token → Type 0

-- a relation of the factored symbols, of the written ones among them
abbrev Taken : FactoredRelation → WrittenRelation
Taken E n v xs ys = E (of n) v xs ys

pub lifted_in : (M : Mode) (E : FactoredRelation) {A : Type 0} (g : Rule A)
    → Kept (Means M (Taken E) g) (Means M E (lifted g))
lifted_in M E (empty a) v xs ys d = d
lifted_in M E (token s) v xs ys d = d
lifted_in M E (sequence g h) v xs ys (ms, d, e) = (ms, lifted_in M E g v.0 xs ms d, lifted_in M E h v.1 ms ys e)
lifted_in M E (choice g h) v xs ys (inl d) = inl (lifted_in M E g v xs ys d)
lifted_in M E (choice g h) v xs ys (inr d) = inr (lifted_in M E h v xs ys d)
lifted_in M E (mapped f g) v xs ys (a, e, d) = (a, e, lifted_in M E g a xs ys d)
lifted_in M E (node f g) v xs ys (a, e, d) = (a, e, lifted_in M E g a xs ys d)
lifted_in M E (checked f g) v xs ys (e, d) = (e, lifted_in M E g v xs ys d)
lifted_in M E (symbol n) v xs ys d = d
lifted_in M E (left_chain f g h) v xs ys d =
    chain_mono f (Means M (Taken E) g) (Means M E (lifted g)) (Means M (Taken E) h)
    (Means M E (lifted h)) (lifted_in M E g) (lifted_in M E h) xs v ys d

pub lifted_out : (M : Mode) (E : FactoredRelation) {A : Type 0} (g : Rule A)
    → Kept (Means M E (lifted g)) (Means M (Taken E) g)
lifted_out M E (empty a) v xs ys d = d
lifted_out M E (token s) v xs ys d = d
lifted_out M E (sequence g h) v xs ys (ms, d, e) = (ms, lifted_out M E g v.0 xs ms d, lifted_out M E h v.1 ms ys e)
lifted_out M E (choice g h) v xs ys (inl d) = inl (lifted_out M E g v xs ys d)
lifted_out M E (choice g h) v xs ys (inr d) = inr (lifted_out M E h v xs ys d)
lifted_out M E (mapped f g) v xs ys (a, e, d) = (a, e, lifted_out M E g a xs ys d)
lifted_out M E (node f g) v xs ys (a, e, d) = (a, e, lifted_out M E g a xs ys d)
lifted_out M E (checked f g) v xs ys (e, d) = (e, lifted_out M E g v xs ys d)
lifted_out M E (symbol n) v xs ys d = d
lifted_out M E (left_chain f g h) v xs ys d =
    chain_mono f (Means M E (lifted g)) (Means M (Taken E) g) (Means M E (lifted h))
    (Means M (Taken E) h) (lifted_out M E g) (lifted_out M E h) xs v ys d
