-- Template lists inside are passed over on the way to the token that is reached.
use Rattle.std.proofs.Common.{◌≡◌, ℕ, suc, ◌+◌, Bool, false, List, [], ◌∷◌, ◌++◌, length, refl, ap, subst, ◌∙◌, append_assoc, length-append, arith}
use Rattle.grammar.specs.Tokens.{Token, first_tokens}
use Rattle.wgsl_model.specs.Tokens.Kind.{Kind}
use Rattle.wgsl_theory_templates.proofs.Reaching.Reach.{Role, Role.template_start, Role.template_end, role, Place, reach_role, reach, ahead_role, ahead}
use Rattle.wgsl_theory_templates.proofs.Lexed.Shapes.{Shape, shape_end, shape_opening, shape_closing, shape_greater, shape_short_circuit, shape_plain, shape_word, shape_template}
use Rattle.wgsl_theory_templates.proofs.Lexed.RoleClasses.{is_mark_role, word_unmarked, greater_unmarked, plain_unmarked}

-- kinds that are passed over inside a template list
pub record Balanced (ks : List Kind) : Type 0 where
  pub reached : (p : Place) (k d : ℕ) (ts : List Kind) → reach p (suc k) d (ks ++ ts) ≡ reach p (suc k) d ts
  pub counted : (k d : ℕ) (ts : List Kind) → ahead (suc k) d (ks ++ ts) ≡ length ks + ahead (suc k) d ts

-- kinds that are passed over anywhere
pub record Closed (ks : List Kind) : Type 0 where
  pub reached : (p : Place) (k d : ℕ) (ts : List Kind) → reach p k d (ks ++ ts) ≡ reach p k d ts
  pub counted : (k d : ℕ) (ts : List Kind) → ahead k d (ks ++ ts) ≡ length ks + ahead k d ts

-- ---- one token
unmarked_reach : (r : Role) → is_mark_role r ≡ false → (k d : ℕ) (next : ℕ → ℕ → Bool)
    → reach_role r (suc k) d next ≡ next (suc k) d
unmarked_reach template_start e k d next = absurd cc
unmarked_reach template_end e k d next = absurd cc
unmarked_reach r e k d next = refl

unmarked_ahead : (r : Role) → is_mark_role r ≡ false → (k d : ℕ) (next : ℕ → ℕ → ℕ)
    → ahead_role r (suc k) d next ≡ suc (next (suc k) d)
unmarked_ahead template_start e k d next = absurd cc
unmarked_ahead template_end e k d next = absurd cc
unmarked_ahead r e k d next = refl

pub no_kinds : Balanced []
no_kinds = record { reached = λ p k d ts. refl; counted = λ k d ts. omega arith }

pub one_more : (k : Kind) (ks : List Kind) → is_mark_role (role k.class) ≡ false → Balanced ks → Balanced (k ∷ ks)
one_more t ks e h = record {
  reached = λ p k d ts. unmarked_reach (role t.class) e k d (λ i j. reach p i j (ks ++ ts)) ∙ h.reached p k d ts;
  counted = λ k d ts.
      let g = unmarked_ahead (role t.class) e k d (λ i j. ahead i j (ks ++ ts)) in
      let w = h.counted k d ts in
      omega arith;
}

-- ---- a template list
pub closed_template : (start end : Kind) (us : List Kind) → role start.class ≡ template_start
    → role end.class ≡ template_end → Balanced us → Closed (start ∷ (us ++ (end ∷ [])))
closed_template start end us e f h = record {
  reached = λ p k d ts.
      ap (λ (r : Role). reach_role r k d (λ i j. reach p i j ((us ++ (end ∷ [])) ++ ts))) e
      ∙ ap (λ (l : List Kind). reach p (suc k) d l) (append_assoc us (end ∷ []) ts)
      ∙ h.reached p k d (end ∷ ts) ∙ ap (λ (r : Role). reach_role r (suc k) d (λ i j. reach p i j ts)) f;
  counted = λ k d ts.
      let a : ahead k d ((start ∷ (us ++ (end ∷ []))) ++ ts) ≡ suc (ahead (suc k) d ((us ++ (end ∷ [])) ++ ts)) =
      ap (λ (r : Role). ahead_role r k d (λ i j. ahead i j ((us ++ (end ∷ [])) ++ ts))) e in
      let b : ahead (suc k) d ((us ++ (end ∷ [])) ++ ts) ≡ ahead (suc k) d (us ++ (end ∷ ts)) =
      ap (λ (l : List Kind). ahead (suc k) d l) (append_assoc us (end ∷ []) ts) in
      let c : ahead (suc k) d (us ++ (end ∷ ts)) ≡ length us + ahead (suc k) d (end ∷ ts) = h.counted k d (end ∷ ts) in
      let g : ahead (suc k) d (end ∷ ts) ≡ suc (ahead k d ts) =
      ap (λ (r : Role). ahead_role r (suc k) d (λ i j. ahead i j ts)) f in
      let l : length (us ++ (end ∷ [])) ≡ length us + 1 = length-append us (end ∷ []) in
      omega arith;
}

pub over_closed : (us vs : List Kind) → Closed us → Balanced vs → Balanced (us ++ vs)
over_closed us vs h g = record {
  reached = λ p k d ts. ap (λ (l : List Kind). reach p (suc k) d l) (append_assoc us vs ts)
      ∙ h.reached p (suc k) d (vs ++ ts) ∙ g.reached p k d ts;
  counted = λ k d ts.
      let a : ahead (suc k) d ((us ++ vs) ++ ts) ≡ ahead (suc k) d (us ++ (vs ++ ts)) =
      ap (λ (l : List Kind). ahead (suc k) d l) (append_assoc us vs ts) in
      let b = h.counted (suc k) d (vs ++ ts) in
      let c = g.counted k d ts in
      let l : length (us ++ vs) ≡ length us + length vs = length-append us vs in
      omega arith;
}

-- ---- a shape
-- kinds that have a shape are passed over inside a template list
pub balanced : {Lists : List Kind → Type 0} {W : Place → List Kind → Type 0} {p : Place} {depth : ℕ}
    {ks : List Kind} → Shape (λ (k : Kind). k.class) Lists W p depth ks → Balanced ks
balanced shape_end = no_kinds
balanced (shape_opening {t = t} {ts = ts} e s) = one_more t ts (ap is_mark_role e) (balanced s)
balanced (shape_closing {t = t} {ts = ts} e f s) = one_more t ts (ap is_mark_role e) (balanced s)
balanced (shape_greater {t = t} {ts = ts} e m s) = one_more t ts (greater_unmarked (role t.class) e) (balanced s)
balanced (shape_short_circuit {t = t} {ts = ts} e m s) = one_more t ts (ap is_mark_role e) (balanced s)
balanced (shape_plain {t = t} {ts = ts} e s) = one_more t ts (plain_unmarked (role t.class) e) (balanced s)
balanced (shape_word {t = t} {ts = ts} e w s) = one_more t ts (word_unmarked (role t.class) e) (balanced s)
balanced (shape_template t start end us ts e f g s l r) =
    one_more t (start ∷ (us ++ (end ∷ ts))) (word_unmarked (role t.class) e)
    (subst Balanced (ap (λ (x : List Kind). start ∷ x) (append_assoc us (end ∷ []) ts)) (over_closed
    (start ∷ (us ++ (end ∷ []))) ts (closed_template start end us f g (balanced s)) (balanced r)))

-- ---- the tokens before the one that is reached
pub front_over : (us vs : List Token) (n : ℕ) → first_tokens (length us + n) (us ++ vs) ≡ us ++ first_tokens n vs
front_over [] vs n = ap (λ (m : ℕ). first_tokens m vs) (omega arith)
front_over (t ∷ us) vs n =
    let e : suc (length us) + n ≡ suc (length us + n) = omega arith in
    ap (λ (m : ℕ). first_tokens m (t ∷ (us ++ vs))) e ∙ ap (λ (l : List Token). t ∷ l) (front_over us vs n)
