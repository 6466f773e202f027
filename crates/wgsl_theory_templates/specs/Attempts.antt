-- What is known of a list that would begin at a `<`, as far as it was read.
use Rattle.std.specs.Prelude.{◌≡◌, ◌+◌, ℕ, Bool, true, List, [], ◌∷◌, ◌++◌}
use Rattle.grammar.specs.Tokens.{Token}
use Rattle.grammar.specs.Grammar.{is_among}
use Rattle.wgsl_model.specs.Tokens.ClassTable.{SymLessThan, SymShiftLeft}
use Rattle.wgsl_model.specs.Tokens.Templates.{Inside, Template}
use Rattle.wgsl_theory_grammar.proofs.Tokens.Inside.{After}
use Rattle.wgsl_theory_grammar.proofs.Tokens.Decided.{IsList}

-- such a list, whose `<` is before a text, ends at another text
abbrev pub EndsAt : ℕ → List ℕ → List ℕ → Type 0
EndsAt total text end = (ts : List Token) × Inside total (Template total) 0 text ts end × IsList ts

-- there is no such list
abbrev pub HasNoEnd : ℕ → List ℕ → Type 0
HasNoEnd total text = (end : List ℕ) → EndsAt total text end → ⊥

-- the operators that end with a `<`
abbrev pub less_signs : List ℕ
less_signs = SymLessThan ∷ SymShiftLeft ∷ []

-- there is none, and no list around such an operator that ends with that `<`, in brackets or not,
-- is a list of expressions
abbrev pub NoneAround : ℕ → List ℕ → Type 0
NoneAround total text =
    HasNoEnd total text × ((before : List Token) (less : Token) (ts : List Token) (depth : ℕ)
    (end : List ℕ) → is_among less.class less_signs ≡ true
    → Inside total (Template total) depth text ts end → IsList (before ++ (less ∷ ts)) → ⊥)

-- From a text some tokens were seen, up to a rest, and opened a number of brackets more than they
-- closed: however many are open at the text, after these tokens is what the rest has. If the
-- last of them is a word, a template list may follow.
pub record ReadsTo (total : ℕ) (text : List ℕ) (seen : List Token) (word : Bool) (depth : ℕ)
    (rest : List ℕ) : Type 0 where
  pub forth : (d : ℕ) (ts : List Token) (end : List ℕ)
      → After total (Template total) word (d + depth) rest ts end
      → Inside total (Template total) d text (seen ++ ts) end
  pub back : (d : ℕ) (ts : List Token) (end : List ℕ) → Inside total (Template total) d text ts end
      → (us : List Token) × (ts ≡ seen ++ us) × After total (Template total) word (d + depth) rest us end
