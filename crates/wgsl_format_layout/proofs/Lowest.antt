-- The least that is open before tokens.
use Rattle.std.proofs.Common.{◌≡◌, ℕ, ◌≤◌, ◌==◌, nat_le, true, List, [], ◌∷◌, ◌++◌, arith}
use Rattle.std.proofs.lemmas.Bool.{le-leb, eq-eqb, and_from}
use Rattle.wgsl_model_tidy.specs.Roles.{ends_item}
use Rattle.wgsl_model_tidy.specs.Ahead.{Ahead}
use Rattle.wgsl_format_layout.specs.Windows.{ends_at}
use Rattle.wgsl_format_layout.specs.SoFar.{AreFrom}

pub from_more : (n k : ℕ) (ts : List Ahead) (t : Ahead) → k ≤ n → k ≤ t.level → AreFrom n ts
    → AreFrom k (ts ++ (t ∷ []))
from_more n k [] t l m h = (m, tt)
from_more n k (u ∷ us) t l m h = (omega (arith, l, h.0), from_more n k us t l m h.1)

-- an item ends with the last one, outside of what is open before
pub ends_last : (n : ℕ) (ts : List Ahead) (t : Ahead) → AreFrom n ts → t.level ≡ n → ends_item t.role ≡ true
    → ends_at n (ts ++ (t ∷ [])) ≡ true
ends_last n [] t h e i = and_from (t.level == n) (ends_item t.role) (eq-eqb t.level n e) i
ends_last n (u ∷ []) t h e i = and_from (nat_le n u.level) _ (le-leb n u.level h.0) (ends_last n [] t tt e i)
ends_last n (u ∷ v ∷ ts) t h e i = and_from (nat_le n u.level) _ (le-leb n u.level h.0) (ends_last n (v ∷ ts) t h.1 e i)
