-- Names that begin with `.` in a path.
use Rattle.std.proofs.Common.{◌≡◌, sym, ap, ◌∙◌, ℕ, ◌+◌, ◌<◌, true, false, ◌||◌, nat_eq, codes, List, [], ◌∷◌, length, drop, get_or}
use Rattle.std.proofs.lemmas.Bool.{false≢true}
use Rattle.std.proofs.lemmas.List.{drop_more}
use Rattle.std.specs.List.{starts_with}
use Rattle.wgsl_files.specs.Folders.{is_hidden}

-- one begins here
pub hidden_here : (names : List ℕ) → starts_with nat_eq names (codes "/.") ≡ true → is_hidden names ≡ true
hidden_here [] here = absurd (false≢true here)
hidden_here (c ∷ cs) here = ap (λ b. b || is_hidden cs) here

-- none begins at the front
not_first : (c : ℕ) (cs names : List ℕ) → names ≡ c ∷ cs
    → starts_with nat_eq names (codes "/.") ≡ false → is_hidden cs ≡ is_hidden names
not_first c cs names is other =
    let here = ap (λ xs. starts_with nat_eq xs (codes "/.")) (sym is) ∙ other in
    sym (ap is_hidden is ∙ ap (λ b. b || is_hidden cs) here)

-- none begins at this place
pub hidden_later : (names : List ℕ) (i : ℕ) → i < length names → starts_with nat_eq (drop i names) (codes "/.") ≡ false
    → is_hidden (drop (i + 1) names) ≡ is_hidden (drop i names)
hidden_later names i within other = not_first (get_or names i 0) (drop (i + 1) names) (drop i names)
    (drop_more names i 0 within) other
