-- What is chosen of two.
use Rattle.std.proofs.Common.{◌≡◌, Bool, true, false, cond, refl}

pub cond_alike : {A : Type 0} (b : Bool) (x x' y y' : A) → (b ≡ true → x ≡ x')
    → (b ≡ false → y ≡ y') → cond b x y ≡ cond b x' y'
cond_alike true x x' y y' h k = h refl
cond_alike false x x' y y' h k = k refl
