-- Where no check finds a fault, the fault of the syntax is the one that is named.
use Rattle.std.proofs.Common.{List}
use Rattle.grammar.specs.Tokens.{Token, Fault}
use Rattle.grammar.specs.Endings.{Ending}
use Rattle.wgsl_model.specs.Grammar.Symbols.{Symbol.unit}
use Rattle.wgsl_model.specs.Faults.Checked.{IsCheckedFault}
use Rattle.wgsl_model.specs.Faults.NamedFault.{IsNamed, IsNamed.unexpected_first, IsNamed.carried_last, IsNamed.missing_last, IsSyntaxFault, IsNamedUnchecked.unchecked_unexpected, IsNamedUnchecked.unchecked_carried, IsNamedUnchecked.unchecked_missing}

pub named_where_unchecked : (ts : List Token) (ending : Ending) (x : Fault) → IsSyntaxFault ts ending x
    → ((y : Fault) (ys : List Token) → IsCheckedFault ts ending y ys → ⊥) → IsNamed unit ts ending x
named_where_unchecked ts ending _ (unchecked_unexpected p us t w v unmet) none =
    unexpected_first p us t w v unmet (λ y ys f l. none y ys f)
named_where_unchecked ts ending _ (unchecked_carried x v e) none = carried_last x v (λ y ys f l. none y ys f) e
named_where_unchecked ts ending _ (unchecked_missing v unmet e) none = missing_last v unmet (λ y ys f l. none y ys f) e
