-- How long steps can go on before they take a token, by which following them ends.
use Rattle.std.specs.Prelude.{ℕ, suc, ◌+◌, ◌*◌, ◌^◌, nat_le, Bool, true, false, cond, not, ◌&&◌, ◌||◌}
use Rattle.wgsl_theory_grammar.specs.Factored.{FactoredSymbol}
use Rattle.wgsl_theory_grammar.specs.Tables.{empties, ranks}
use Rattle.wgsl_read_dialect.specs.Steps.{Steps, Steps.no_step, Steps.a_token, Steps.a_symbol, Steps.a_choice, Steps.items}

-- no step has to take a token
abbrev pub can_be_empty : Steps → Bool
can_be_empty no_step = true
can_be_empty (a_token cs k) = false
can_be_empty (a_symbol n k) = empties n && can_be_empty k
can_be_empty (a_choice cs g h k) = (can_be_empty g || can_be_empty h) && can_be_empty k
can_be_empty (items cs h k) = can_be_empty k

-- the weight of a symbol: more than the weight of its steps, as each symbol that they begin with
-- has a lower rank
unfoldable pub symbol_weight : FactoredSymbol → ℕ
symbol_weight n = 25 * 8 ^ ranks n

-- the weight of steps up to the first that takes a token
abbrev pub weight : Steps → ℕ
weight no_step = 0
weight (a_token cs k) = 1
weight (a_symbol n k) = suc (symbol_weight n + cond (empties n) (weight k) 0)
weight (a_choice cs g h k) = suc (weight g + (weight h + cond (can_be_empty g || can_be_empty h) (weight k) 0))
weight (items cs h k) = suc (suc (weight h + weight k))

-- the weight of a token: that of any steps at least
unfoldable pub token_weight : ℕ
token_weight = 25 * 8 ^ 8

-- each item takes a token, and no steps weigh more than a token
abbrev pub is_settled : Steps → Bool
is_settled no_step = true
is_settled (a_token cs k) = nat_le (weight k) token_weight && is_settled k
is_settled (a_symbol n k) = nat_le (weight k) token_weight && is_settled k
is_settled (a_choice cs g h k) = (is_settled g && is_settled h) && (nat_le (weight k) token_weight && is_settled k)
is_settled (items cs h k) = (not (can_be_empty h) && is_settled h) && (nat_le (weight k) token_weight && is_settled k)
