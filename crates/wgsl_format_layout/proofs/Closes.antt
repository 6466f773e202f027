-- Where what tokens open is closed, with more tokens after them.
use Rattle.std.proofs.Common.{◌≡◌, ℕ, zero, suc, ◌<◌, Bool, true, false, cond, refl, sym, ap, subst, ◌∙◌, List, [], ◌∷◌, ◌++◌, length, drop, slice_index_or, slice_set, arith}
use Rattle.wgsl_model_tidy.specs.Roles.{Role, opens, closes}
use Rattle.wgsl_format_layout.specs.declared.marks.MarkedToken.{MarkedToken}
use Rattle.wgsl_format_layout.specs.Closing.{AreBelow, with_close, with_first_close, tokens_after, open_after, first_or, with_closes}

-- a token in place of another
pub closed_set : (ms : List MarkedToken) (i close : ℕ) (m : MarkedToken) → i < length ms
    → m ≡ slice_index_or ms i m → slice_set ms i (record m { close = close }) ≡ with_close ms i close
closed_set [] i close m l e = absurd (omega (arith, l))
closed_set (x ∷ xs) zero close m l e = ap (λ (y : MarkedToken). record y { close = close } ∷ xs) e
closed_set (x ∷ xs) (suc i) close m l e = ap (λ ys. x ∷ ys) (closed_set xs i close m (omega (arith, l)) e)

-- there are as many
pub length_closed : (ms : List MarkedToken) (i close : ℕ) → length (with_close ms i close) ≡ length ms
length_closed [] i close = refl
length_closed (m ∷ ms) zero close = refl
length_closed (m ∷ ms) (suc i) close = ap suc (length_closed ms i close)

length_first : (ms : List MarkedToken) (is : List ℕ) (close : ℕ) → length (with_first_close ms is close) ≡ length ms
length_first ms [] close = refl
length_first ms (i ∷ is) close = length_closed ms i close

pub length_after : (right : Role) (place : ℕ) (ms : List MarkedToken) (is : List ℕ)
    → length (tokens_after right place ms is) ≡ length ms
length_after right place ms is = go (opens right) (closes right)
  where
    go : (o c : Bool) → length (cond o ms (cond c (with_first_close ms is place) ms)) ≡ length ms
    go true c = refl
    go false true = length_first ms is place
    go false false = refl

-- places below one number are below another that is as large
pub below_as : (n k : ℕ) (is : List ℕ) → n ≡ k → AreBelow n is → AreBelow k is
below_as n k is e h = subst (λ x. AreBelow x is) e h

pub below_more : (n : ℕ) (is : List ℕ) → AreBelow n is → AreBelow (suc n) is
below_more n [] h = tt
below_more n (i ∷ is) h = (omega (arith, h.0), below_more n is h.1)

below_less : (n : ℕ) (is : List ℕ) → AreBelow n is → AreBelow n (drop 1 is)
below_less n [] h = tt
below_less n (i ∷ is) h = h.1

pub below_after : (right : Role) (place : ℕ) (is : List ℕ) → AreBelow place is
    → AreBelow (suc place) (open_after right place is)
below_after right place is h = go (opens right) (closes right)
  where
    go : (o c : Bool) → AreBelow (suc place) (cond o (place ∷ is) (cond c (drop 1 is) is))
    go true c = (omega arith, below_more place is h)
    go false true = below_more place (drop 1 is) (below_less place is h)
    go false false = below_more place is h

-- ---- other tokens after them

closed_before : (ms more : List MarkedToken) (i close : ℕ) → i < length ms
    → with_close (ms ++ more) i close ≡ with_close ms i close ++ more
closed_before [] more i close l = absurd (omega (arith, l))
closed_before (m ∷ ms) more zero close l = refl
closed_before (m ∷ ms) more (suc i) close l = ap (λ xs. m ∷ xs) (closed_before ms more i close (omega (arith, l)))

closed_last : (ms : List MarkedToken) (m : MarkedToken) (close : ℕ)
    → with_close (ms ++ (m ∷ [])) (length ms) close ≡ ms ++ (record m { close = close } ∷ [])
closed_last [] m close = refl
closed_last (x ∷ xs) m close = ap (λ ys. x ∷ ys) (closed_last xs m close)

closes_before : (end : ℕ) (ms more : List MarkedToken) (is cs : List ℕ) → AreBelow (length ms) is
    → with_closes end (ms ++ more) is cs ≡ with_closes end ms is cs ++ more
closes_before end ms more [] cs h = refl
closes_before end ms more (i ∷ is) cs h =
    let close = first_or end cs in
    ap (λ xs. with_closes end xs is (drop 1 cs)) (closed_before ms more i close h.0)
    ∙ closes_before end (with_close ms i close) more is (drop 1 cs)
    (below_as _ _ is (sym (length_closed ms i close)) h.1)

-- one more that opens nothing and cs nothing
pub closes_other : (end : ℕ) (ms : List MarkedToken) (m : MarkedToken) (is cs : List ℕ) → AreBelow (length ms) is
    → with_closes end (ms ++ (m ∷ [])) is cs ≡ with_closes end ms is cs ++ (m ∷ [])
closes_other end ms m is cs h = closes_before end ms (m ∷ []) is cs h

-- one that opens something
pub closes_opened : (end : ℕ) (ms : List MarkedToken) (m : MarkedToken) (is cs : List ℕ) → AreBelow (length ms) is
    → with_closes end (ms ++ (m ∷ [])) (length ms ∷ is) cs
    ≡ with_closes end ms is (drop 1 cs) ++ (record m { close = first_or end cs } ∷ [])
closes_opened end ms m is cs h =
    ap (λ xs. with_closes end xs is (drop 1 cs)) (closed_last ms m (first_or end cs))
    ∙ closes_before end ms (record m { close = first_or end cs } ∷ []) is (drop 1 cs) h

-- one that cs something
pub closes_closed : (end : ℕ) (ms : List MarkedToken) (m : MarkedToken) (is cs : List ℕ) (place : ℕ)
    → AreBelow (length ms) is
    → with_closes end (with_first_close (ms ++ (m ∷ [])) is place) (drop 1 is) cs
    ≡ with_closes end ms is (place ∷ cs) ++ (m ∷ [])
closes_closed end ms m [] cs place h = refl
closes_closed end ms m (i ∷ is) cs place h =
    ap (λ xs. with_closes end xs is cs) (closed_before ms (m ∷ []) i place h.0)
    ∙ closes_before end (with_close ms i place) (m ∷ []) is cs
    (below_as _ _ is (sym (length_closed ms i place)) h.1)
