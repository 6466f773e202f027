-- Parts one after another: as many turns as there are tokens are enough.
use Rattle.std.proofs.Common.{◌≡◌, ℕ, zero, suc, ◌≤◌, ◌<◌, cond, List, [], ◌∷◌, length, refl, ap, ◌∙◌, arith}
use Rattle.std.specs.Prelude.{Option, Some, None}
use Rattle.wgsl_lex_templates.specs.Advancing.{◌>>=◌, is_next, turns_in, turns}

-- a part takes a token
abbrev pub Shortens : (List ℕ → Option (List ℕ)) → Type 0
Shortens part = (cs ds : List ℕ) → part cs ≡ Some ds → length ds < length cs

pub bind_where : (m : Option (List ℕ)) (f g : List ℕ → Option (List ℕ))
    → ((ds : List ℕ) → m ≡ Some ds → f ds ≡ g ds) → (m >>= f) ≡ (m >>= g)
bind_where None f g h = refl
bind_where (Some ds) f g h = h ds refl

enough : (j k : ℕ) (s : List ℕ) (part : List ℕ → Option (List ℕ)) → Shortens part → (cs : List ℕ)
    → length cs ≤ j → length cs ≤ k → turns_in j s part cs ≡ turns_in k s part cs
enough zero zero s part H cs hj hk = refl
enough zero (suc k) s part H [] hj hk = refl
enough zero (suc k) s part H (c ∷ cs) hj hk = absurd (omega arith)
enough (suc j) zero s part H [] hj hk = refl
enough (suc j) zero s part H (c ∷ cs) hj hk = absurd (omega arith)
enough (suc j) (suc k) s part H cs hj hk =
    ap (λ (x : Option (List ℕ)). cond (is_next s cs) x (Some cs))
    (bind_where (part cs) (turns_in j s part) (turns_in k s part)
    (λ ds e. let lt = H cs ds e in enough j k s part H ds (omega (arith, lt, hj)) (omega (arith, lt, hk))))

-- one turn: a further part where the next token begins one
pub turns_are : (s : List ℕ) (part : List ℕ → Option (List ℕ)) → Shortens part → (cs : List ℕ)
    → turns s part cs ≡ cond (is_next s cs) (part cs >>= turns s part) (Some cs)
turns_are s part H cs =
    enough (length cs) (suc (length cs)) s part H cs (omega arith) (omega arith)
    ∙ ap (λ (x : Option (List ℕ)). cond (is_next s cs) x (Some cs))
    (bind_where (part cs) (turns_in (length cs) s part) (turns s part) (λ ds e. let lt = H cs ds e in
    enough (length cs) (length ds) s part H ds (omega (arith, lt)) (omega arith)))
