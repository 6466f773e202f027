-- What was read after a `<`.
use Rattle.std.specs.Prelude.{◌≡◌, ◌≤◌, ℕ, Bool, false, List, length}
use Rattle.grammar.specs.Tokens.{Token}
use Rattle.wgsl_theory_grammar.proofs.Tokens.Cuts.{EndsWith}
use Rattle.wgsl_theory_templates.specs.Attempts.{ReadsTo}
use Rattle.wgsl_theory_templates.specs.Exchanged.{Exchanged}
use Rattle.wgsl_lex_templates.specs.ExpressionLists.{classes_of}
use Rattle.wgsl_lex_templates.specs.declared.kept.Piece.{Piece}
use Rattle.wgsl_lex_templates.specs.Kept.{held}

-- From a text tokens were seen, up to a rest. The classes are of tokens that may be in their
-- place.
pub record Reaches (total : ℕ) (text now : List ℕ) (word : Bool) (depth : ℕ) (rest : List ℕ) : Type 0 where
  pub seen : List Token
  pub short : List Token
  pub read : now ≡ classes_of short
  pub exchanged : Exchanged short seen
  pub reads : ReadsTo total text seen word depth rest

-- with as many brackets open as at the text, after no word; the classes are held by the pieces
-- from one place up to another
abbrev pub GoesOn : ℕ → List Piece → List ℕ → List ℕ → ℕ → ℕ → Type 0
GoesOn total pieces text rest start end = EndsWith text rest × (end ≤ length pieces)
    × Reaches total text (held pieces start end) false 0 rest
