-- From the same tokens a symbol is derived up to one rest alone, where it does not go on with what
-- the rest begins with.
use Rattle.std.proofs.Common.{◌≡◌, ℕ, suc, ◌+◌, ◌*◌, List, length, inl, inr, sym, ◌∙◌, le_refl}
use Rattle.grammar.specs.Tokens.{Token}
use Rattle.grammar.specs.Grammar.{Mode.checking}
use Rattle.grammar.specs.Reading.{Outcome, Outcome.ok, Outcome.out, read}
use Rattle.grammar.proofs.Reading.Complete.{Stops, OrOut, complete_read}
use Rattle.grammar.proofs.Reading.Step.{sane, has_fuel}
use Rattle.wgsl_model.specs.Grammar.Symbols.{Dialect.parsed, Symbol, Value}
use Rattle.wgsl_theory_grammar.specs.Factored.{FactoredSymbol.of, body}
use Rattle.wgsl_theory_grammar.specs.Tables.{mores, rank_limit, tables}
use Rattle.wgsl_theory_grammar.proofs.Forms.Links.{written_is_factored}
use Rattle.wgsl_theory_grammar.proofs.Passes.{passes}
use Rattle.wgsl_theory_reread.proofs.Again.{D}

one_outcome : {A : Type 0} (m : Outcome A) (v w : A) (ys zs : List Token) → (m ≡ out → ⊥)
    → OrOut m v ys → OrOut m w zs → (v ≡ w) × (ys ≡ zs)
one_outcome m v w ys zs n (inl e) (inl f) = let same : ok v ys ≡ ok w zs = sym e ∙ f in (cc, cc)
one_outcome m v w ys zs n (inl e) (inr f) = absurd (n f)
one_outcome m v w ys zs n (inr e) f = absurd (n e)

pub same_rest : (n : Symbol) (v w : Value n) (xs ys zs : List Token) → D n v xs ys → D n w xs zs
    → Stops (mores (of n)) ys → Stops (mores (of n)) zs → (v ≡ w) × (ys ≡ zs)
same_rest n v w xs ys zs d e p q =
    let fuel : ℕ = rank_limit * length xs + suc (tables.rank (of n)) in
    let reads = complete_read tables checking body (sane tables body rank_limit passes) fuel (of n) in
    one_outcome (read tables checking body fuel (of n) xs) v w ys zs
    (has_fuel tables checking body rank_limit passes fuel (of n) xs (le_refl fuel))
    (reads v xs ys (written_is_factored parsed checking n v xs ys d) p)
    (reads w xs zs (written_is_factored parsed checking n w xs zs e) q)
