-- What a spanned node is once the loan of its node is over.
use Rattle.std.specs.Borrow.{Lends, MutBor, Fml, RattleType}
use Rattle.wgsl_span.specs.declared.Spanned.{Spanned}
use Rattle.wgsl_span.specs.contracts.Spanned.{the_row}

-- s with another node
abbrev pub with_node : {T : Type 0} → Spanned T → T → Spanned T
with_node s n = record s { node = record s.node { value = n } }

-- s ends with the last value after r as its node
abbrev pub LendsNode : (T : RattleType) → MutBor (Spanned T.Denot) → MutBor T.Denot → Fml
LendsNode T s r = Lends (the_row T) T s r (with_node s.now)
