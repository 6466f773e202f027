-- What is written from the symbols in a right side.
use Rattle.std.proofs.Common.{Bool, true, false}
use Rattle.grammar.specs.Grammar.{Grammar.symbol}
use Rattle.wgsl_model.specs.Grammar.Symbols.{Symbol, component, expressions, statement, global_declaration, unit}
use Rattle.wgsl_theory_grammar.proofs.Faults.WrittenEnds.{closing}
use Rattle.wgsl_theory_reread.specs.CanonicalUnits.{kept_declaration_tokens}
use Rattle.wgsl_theory_reread.proofs.EachRule.StatementParts.{kept_tokens}
use Rattle.wgsl_theory_templates.proofs.Changes.Edits.{widen}
use Rattle.wgsl_theory_templates.proofs.Changes.EditWays.{Changes, edit_write}

-- what is written, with what else is known
pub finished : {A B C E F : Type 0} → A × B × C → F → A × E → A × B × F × E
finished known filled found = (found.0, known.1, filled, found.1)

-- all symbols but components, lists of expressions and what is after a stop alone
abbrev pub IsTurned : Symbol → Type 0
IsTurned component = ⊥
IsTurned expressions = ⊥
IsTurned statement = ⊥
IsTurned global_declaration = ⊥
IsTurned unit = ⊥
IsTurned n = Unit {0}

-- of each of them, with any kind before it
pub symbol_edits : (n : Symbol) → IsTurned n → {b : Bool} → Changes (closing n) b (symbol n) (edit_write n)
symbol_edits component k = absurd k
symbol_edits expressions k = absurd k
symbol_edits statement k = absurd k
symbol_edits global_declaration k = absurd k
symbol_edits unit k = absurd k
symbol_edits n k {b} = record {
  edit = λ v xs ys d words. let found = d words in (found.0, λ ks r. widen {e = false} {b = b} tt (found.3 ks r));
}

-- ---- items
pub statement_edits : Changes true true (symbol statement) kept_tokens
statement_edits = record { edit = λ v xs ys d words. let found = d words in (found.0, found.3) }

pub global_declaration_edits : Changes true true (symbol global_declaration) kept_declaration_tokens
global_declaration_edits = record { edit = λ v xs ys d words. let found = d words in (found.0, found.3) }
