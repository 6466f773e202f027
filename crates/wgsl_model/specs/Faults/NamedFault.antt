-- Which fault is named of a list of tokens that derives no tree, or did not end of itself.
use Rattle.std.specs.Prelude.{ℕ, suc, ◌≡◌, ◌≤◌, List, [], ◌∷◌, ◌++◌, length}
use Rattle.grammar.specs.Tokens.{Token, Fault, last_end}
use Rattle.grammar.specs.Grammar.{IsSentence, IsViable}
use Rattle.grammar.specs.Endings.{Ending, Ending.finished, Ending.carried}
use Rattle.wgsl_model.specs.Faults.Kinds.{unexpected_token, unexpected_end}
use Rattle.wgsl_model.specs.Grammar.Symbols.{Dialect, Dialect.parsed, Dialect.recognized, Symbol, Symbol.unit}
use Rattle.wgsl_model.specs.Grammar.Written.{rules, written}
use Rattle.wgsl_model.specs.Faults.Checked.{IsCheckedFault}

-- no checked fault has a number of tokens after it, or more
abbrev pub NoFaultBefore : List Token → Ending → ℕ → Type 0
NoFaultBefore ts ending k = (x : Fault) (ys : List Token) → IsCheckedFault ts ending x ys → k ≤ length ys → ⊥

-- The fault that is named: the checked fault that ends first, if it ends in a front that begins a
-- sentence; else the first token with which no sentence goes on; else, where all tokens begin a
-- sentence, what ended the list, or that its end comes too early.
pub data IsNamed (n : Symbol) (ts : List Token) (ending : Ending) : Fault → Type 0 where
  checked_first : (p us : List Token) (x : Fault) → ts ≡ p ++ us → IsViable written n p
      → IsCheckedFault ts ending x us → NoFaultBefore ts ending (suc (length us)) → IsNamed n ts ending x
  unexpected_first : (p us : List Token) (t : Token) → ts ≡ p ++ (t ∷ us) → IsViable written n p
      → (IsViable written n (p ++ (t ∷ [])) → ⊥) → NoFaultBefore ts ending (suc (length us))
      → IsNamed n ts ending (unexpected_token t)
  carried_last : (x : Fault) → IsViable written n ts → NoFaultBefore ts ending 0
      → ending ≡ carried x → IsNamed n ts ending x
  missing_last : IsViable written n ts → (IsSentence written n ts → ⊥) → NoFaultBefore ts ending 0
      → ending ≡ finished → IsNamed n ts ending (unexpected_end (last_end 0 ts))

-- The same where nothing is checked, in a dialect.
pub data IsNamedUnchecked (L : Dialect) (n : Symbol) (ts : List Token) (ending : Ending) : Fault → Type 0 where
  unchecked_unexpected : (p us : List Token) (t : Token) → ts ≡ p ++ (t ∷ us) → IsViable (rules L) n p
      → (IsViable (rules L) n (p ++ (t ∷ [])) → ⊥) → IsNamedUnchecked L n ts ending (unexpected_token t)
  unchecked_carried : (x : Fault) → IsViable (rules L) n ts → ending ≡ carried x → IsNamedUnchecked L n ts ending x
  unchecked_missing : IsViable (rules L) n ts → (IsSentence (rules L) n ts → ⊥) → ending ≡ finished
      → IsNamedUnchecked L n ts ending (unexpected_end (last_end 0 ts))

-- the same in the dialect
abbrev pub IsNamedSmall : Symbol → List Token → Ending → Fault → Type 0
IsNamedSmall n ts ending x = IsNamedUnchecked recognized n ts ending x

-- The fault of a module's syntax: the one that is named in the whole language where nothing is
-- checked.
abbrev pub IsSyntaxFault : List Token → Ending → Fault → Type 0
IsSyntaxFault ts ending x = IsNamedUnchecked parsed unit ts ending x
