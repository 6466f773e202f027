-- Induction over what the symbols derive, where each rule may also use that its value is derived.
use Rattle.std.proofs.Common.{List}
use Rattle.grammar.specs.Tokens.{Token}
use Rattle.grammar.specs.Grammar.{Mode.checking, Means}
use Rattle.grammar.proofs.Reading.Depth.{same_mode, means_mono, roll, least}
use Rattle.wgsl_model.specs.Grammar.Symbols.{Symbol, Value}
use Rattle.wgsl_model.specs.Grammar.Written.{written}
use Rattle.wgsl_theory_reread.proofs.Again.{D}

-- a relation between a symbol's values and two lists
abbrev pub Relation : Type 1
Relation = (n : Symbol) → Value n → List Token → List Token → Type 0

pub by_derivation : (P : Relation) → ((n : Symbol) (v : Value n) (xs ys : List Token) → D n v xs ys
    → Means checking P (written n) v xs ys → P n v xs ys)
    → (n : Symbol) (v : Value n) (xs ys : List Token) → D n v xs ys → P n v xs ys
by_derivation P rules n v xs ys derived = (least checking written Both both n v xs ys derived).1 where
  Both : Relation
  Both n v xs ys = D n v xs ys × P n v xs ys

  both : (n : Symbol) (v : Value n) (xs ys : List Token) → Means checking Both (written n) v xs ys → Both n v xs ys
  both n v xs ys d =
      let here = roll checking written n v xs ys (means_mono checking checking
      (same_mode checking) Both D (λ m w us vs h. h.0) (written n) v xs ys d) in (
        here,
        rules n v xs ys here (means_mono checking checking (same_mode checking) Both P
            (λ m w us vs h. h.1) (written n) v xs ys d),
      )
