-- What is left to follow, and the work that it can still be.
use Rattle.std.specs.Prelude.{◌≡◌, ℕ, ◌+◌, ◌*◌, ◌≤◌, true, length}
use Rattle.grammar.specs.States.{State, Read}
use Rattle.wgsl_model.specs.Grammar.Symbols.{Dialect}
use Rattle.wgsl_read_dialect.specs.Steps.{Steps}
use Rattle.wgsl_read_dialect.specs.Following.{follow}
use Rattle.wgsl_read_dialect.specs.Weights.{weight, token_weight, is_settled}

-- the work of following steps over the tokens that are left
unfoldable pub work : Steps → State → ℕ
work k s = token_weight * length s.rest + weight k

-- what steps pass over is the whole, and they are no more work than there was
pub record IsWorkLeft (L : Dialect) (whole : Read (Unit {0})) (most : ℕ) (k : Steps) (s : State) : Type 0 where
  pub follows : follow L k s ≡ whole
  pub settled : is_settled k ≡ true
  pub lighter : work k s ≤ most
