-- The tokens that are left of a source, from a place on.
use Rattle.std.specs.Prelude.{◌≡◌, ℕ, false, List, [], ◌∷◌, chars}
use Rattle.grammar.specs.Tokens.{Token}
use Rattle.wgsl_model.specs.Tokens.Places.{place, width}
use Rattle.wgsl_theory_grammar.proofs.Tokens.Cuts.{EndsWith}
use Rattle.wgsl_model_tidy.specs.Ahead.{is_comment}

-- a token is in a text and another text after it; it is no comment
pub record IsCutOff (total : ℕ) (text after : List ℕ) (t : Token) : Type 0 where
  pub from : List ℕ
  pub ends : EndsWith text from
  pub goes_on : EndsWith from after
  pub starts : t.start ≡ place total from
  pub stops : t.end ≡ place total after
  pub plain : is_comment t.class ≡ false

-- tokens are after one another in a text
abbrev pub AreCutOff : ℕ → List ℕ → List Token → Type 0
AreCutOff total text [] = Unit {0}
AreCutOff total text (t ∷ ts) = (after : List ℕ) × IsCutOff total text after t × AreCutOff total after ts

pub record AreLeftFrom (source : List ℕ) (n : ℕ) (ts : List Token) : Type 0 where
  pub rest : List ℕ
  pub ends : EndsWith (chars source) rest
  pub stands : n ≡ place (width (chars source)) rest
  pub cut : AreCutOff (width (chars source)) rest ts
