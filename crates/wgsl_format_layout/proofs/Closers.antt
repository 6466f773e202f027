-- Where the tokens that come next close what is open before them.
use Rattle.std.proofs.Common.{◌≡◌, ℕ, zero, suc, ◌+◌, ◌-◌, ◌≤◌, ◌==◌, ◌&&◌, true, false, not, cond, refl, sym, ap, subst, ◌∙◌, List, [], ◌∷◌, drop, take, length, arith}
use Rattle.std.specs.List.{position_or_len}
use Rattle.std.proofs.lemmas.Bool.{eq-eqb, ne_eqb, and_from}
use Rattle.wgsl_model_tidy.specs.Roles.{opens, closes}
use Rattle.wgsl_model_tidy.specs.Ahead.{Ahead, content}
use Rattle.wgsl_theory_tidy.proofs.Comments.{and_false}
use Rattle.wgsl_format_layout.specs.Closing.{first_or}
use Rattle.wgsl_format_layout.specs.SoFar.{AreClosers}
use Rattle.wgsl_format_layout.specs.Marks.{inside}

pub none_close : (end n place : ℕ) → end ≡ place → AreClosers end n place [] []
none_close end zero place e = tt
none_close end (suc n) place e = (omega (arith, e), none_close end n place e)

-- with a token before them that closes none of these
abbrev ClosesNone : ℕ → Ahead → Type 0
ClosesNone n t = (k : ℕ) → k ≤ n → (t.level == k && closes t.role) ≡ false

not_closed : (k place : ℕ) (t : Ahead) (ts : List Ahead) → (t.level == k && closes t.role) ≡ false
    → suc place + length (content k ts) ≡ place + length (content k (t ∷ ts))
not_closed k place t ts h =
    let n = position_or_len (λ u. u.level == k && closes u.role) ts in
    let next : 1 + n ≡ suc n = omega arith in
    let more : content k (t ∷ ts) ≡ t ∷ content k ts =
    ap (λ b. take (cond (not b) (1 + n) 0) (t ∷ ts)) h ∙ ap (λ m. take m (t ∷ ts)) next in
    let one : suc place + length (content k ts) ≡ place + suc (length (content k ts)) = omega arith in
    one ∙ ap (λ (xs : List Ahead). place + length xs) (sym more)

over : (end n place : ℕ) (t : Ahead) (ts : List Ahead) (cs : List ℕ) → ClosesNone n t
    → AreClosers end n (suc place) ts cs → AreClosers end n place (t ∷ ts) cs
over end zero place t ts cs h k = tt
over end (suc n) place t ts cs h k = (
  k.0 ∙ not_closed (suc n) place t ts (h (suc n) (omega arith)),
  over end n place t ts (drop 1 cs) (λ i l. h i (omega (arith, l))) k.1,
)

closes_no : (n : ℕ) (t : Ahead) → closes t.role ≡ false → ClosesNone n t
closes_no n t h = λ k l. ap (λ b. t.level == k && b) h ∙ and_false (t.level == k)

-- one that opens something
pub close_opened : (end n place : ℕ) (t : Ahead) (ts : List Ahead) (cs : List ℕ) → closes t.role ≡ false
    → AreClosers end (suc n) (suc place) ts cs → AreClosers end n place (t ∷ ts) (drop 1 cs)
close_opened end n place t ts cs h k = over end n place t ts (drop 1 cs) (closes_no n t h) k.1

-- one that opens nothing and closes nothing
pub close_other : (end n place : ℕ) (t : Ahead) (ts : List Ahead) (cs : List ℕ) → closes t.role ≡ false
    → AreClosers end n (suc place) ts cs → AreClosers end n place (t ∷ ts) cs
close_other end n place t ts cs h k = over end n place t ts cs (closes_no n t h) k

-- one that closes something
pub close_closed : (end n place : ℕ) (t : Ahead) (ts : List Ahead) (cs : List ℕ) → t.level ≡ n
    → closes t.role ≡ true → AreClosers end (n - 1) (suc place) ts cs
    → AreClosers end n place (t ∷ ts) (place ∷ cs)
close_closed end zero place t ts cs e h k = tt
close_closed end (suc n) place t ts cs e h k =
    let here : (t.level == suc n && closes t.role) ≡ true =
    and_from (t.level == suc n) (closes t.role) (eq-eqb t.level (suc n) e) h in
    let none : content (suc n) (t ∷ ts) ≡ [] = rw here refl in
    let apart : ClosesNone n t = λ i l. ap (λ b. b && closes t.role)
    (ne_eqb t.level i (λ q. absurd (omega (arith, l, e, q)))) in
    let fewer : suc n - 1 ≡ n = omega arith in
    let first : place ≡ place + 0 = omega arith in (
      first ∙ ap (λ (xs : List Ahead). place + length xs) (sym none),
      over end n place t ts cs apart (subst (λ m. AreClosers end m (suc place) ts cs) fewer k),
    )

-- how much is in what a token opens
pub inside_opened : (end n place : ℕ) (t : Ahead) (ts : List Ahead) (cs : List ℕ) → t.level ≡ n
    → opens t.role ≡ true → AreClosers end (suc n) (suc place) ts cs
    → first_or end cs ≡ place + inside t ts
inside_opened end n place t ts cs e h k =
    let is : suc (length (content (suc n) ts)) ≡ inside t ts =
    ap (λ m. suc (length (content (suc m) ts))) (sym e) ∙ rw h refl in
    let one : suc place + length (content (suc n) ts) ≡ place + suc (length (content (suc n) ts)) = omega arith in
    k.0 ∙ one ∙ ap (λ m. place + m) is

pub inside_none : (place : ℕ) (t : Ahead) (ts : List Ahead) → opens t.role ≡ false → place ≡ place + inside t ts
inside_none place t ts h =
    let none : 0 ≡ inside t ts = rw h refl in
    let same : place ≡ place + 0 = omega arith in
    same ∙ ap (λ m. place + m) none
