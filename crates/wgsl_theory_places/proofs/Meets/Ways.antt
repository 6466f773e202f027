-- What is met in a right side, by the ways to write it.
use Rattle.std.proofs.Common.{◌≡◌, inl, inr, ℕ, true, List, [], ◌∷◌, ◌++◌, Option, None, Some, refl, ap, ◌∙◌, append-nil}
use Rattle.std.specs.Prelude.{flat_map}
use Rattle.grammar.specs.Tokens.{Token, Span, Fault}
use Rattle.grammar.specs.Grammar.{Grammar.empty, Grammar.token, Grammar.left_chain, Mode.checking, Chain, Chain.base, Chain.more, Means}
use Rattle.grammar.specs.Notation.{◌then◌, ◌or◌, ◌gives◌, ◌makes◌, ◌with_check◌, ◌▹◌, ◌◃◌, ◌means◌, optional}
use Rattle.wgsl_model.specs.Grammar.Symbols.{Rule}
use Rattle.wgsl_model_places.specs.Items.{State}
use Rattle.wgsl_model_places.specs.Steps.{going_on}
use Rattle.wgsl_theory_grammar.proofs.Tokens.Classes.{all_pass, passes_on}
use Rattle.wgsl_theory_places.proofs.Meets.Parts.{Met, nothing_met, met_then, met_as, met_to, met_at, Ready, ready_on, settled, kind_of, is_quiet, quiet_met}
use Rattle.wgsl_theory_places.proofs.Meets.Known.{Kind, Meeting, of_nothing, MetBy, Known}

-- what is met in a part of one token at least; and in any part, after a token of the item
pub record Meets {A : Type 0} (g : Rule A) (os : Meeting A) : Type 0 where
  pub meets : (v : A) (xs ys : List Token) → Means checking Known g v xs ys → MetBy os v xs ys

pub record MeetsOn {A : Type 0} (g : Rule A) (os : Meeting A) : Type 0 where
  pub meets : (v : A) (xs ys : List Token) → Means checking Known g v xs ys
      → (σ : State) → Ready σ → going_on σ ≡ σ → Met σ σ (os (kind_of σ.item.role) v) xs ys

pub on : {A : Type 0} {g : Rule A} {os : Meeting A} → Meets g os → MeetsOn g os
on G = record { meets = λ v xs ys d σ ready same. met_to same (G.meets v xs ys d σ ready) }

-- ---- one token, and nothing
pub quiet_meets : (s : List ℕ) → all_pass is_quiet s ≡ true → Meets (token s) of_nothing
quiet_meets s quiet = record {
  meets = λ v xs ys d σ ready. met_at d.1 (quiet_met ready v ys (passes_on is_quiet v.class s quiet d.0));
}

pub none_meets : {A : Type 0} (a : A) {os : Meeting A} → ((kind : Kind) → [] ≡ os kind a) → MeetsOn (empty a) os
none_meets a {os} same = record {
  meets = λ v xs ys d σ ready settled. met_at d.1 (met_as
      (same (kind_of σ.item.role) ∙ ap (os (kind_of σ.item.role)) d.0) (nothing_met σ ys));
}

-- ---- one after another, or one of two
abbrev pub both : {A B : Type 0} → Meeting A → Meeting B → Meeting (A × B)
both os ps kind v = os kind v.0 ++ ps kind v.1

pub then_meets : {A B : Type 0} {g : Rule A} {h : Rule B} {os : Meeting A} {ps : Meeting B}
    → Meets g os → MeetsOn h ps → Meets (g then h) (both os ps)
then_meets G H = record {
  meets = λ v xs ys d σ ready. met_then (G.meets v.0 xs d.0 d.1 σ ready)
      (H.meets v.1 d.0 ys d.2 (going_on σ) (ready_on ready) (settled σ));
}

pub on_then : {A B : Type 0} {g : Rule A} {h : Rule B} {os : Meeting A} {ps : Meeting B}
    → MeetsOn g os → MeetsOn h ps → MeetsOn (g then h) (both os ps)
on_then G H = record {
  meets = λ v xs ys d σ ready same. met_then (G.meets v.0 xs d.0 d.1 σ ready same)
      (H.meets v.1 d.0 ys d.2 σ ready same);
}

pub or_meets : {A : Type 0} {g h : Rule A} {os : Meeting A} → Meets g os → Meets h os → Meets (g or h) os
or_meets {A} {g} {h} {os} G H = record { meets = go } where
  go : (v : A) (xs ys : List Token) → Means checking Known (g or h) v xs ys → MetBy os v xs ys
  go v xs ys (inl d) = G.meets v xs ys d
  go v xs ys (inr d) = H.meets v xs ys d

pub on_or : {A : Type 0} {g h : Rule A} {os : Meeting A} → MeetsOn g os → MeetsOn h os → MeetsOn (g or h) os
on_or {A} {g} {h} {os} G H = record { meets = go } where
  go : (v : A) (xs ys : List Token) → Means checking Known (g or h) v xs ys
      → (σ : State) → Ready σ → going_on σ ≡ σ → Met σ σ (os (kind_of σ.item.role) v) xs ys
  go v xs ys (inl d) = G.meets v xs ys d
  go v xs ys (inr d) = H.meets v xs ys d

-- ---- values
pub gives_meets : {A B : Type 0} {g : Rule A} {f : A → B} {os : Meeting A} {ps : Meeting B}
    → Meets g os → ((kind : Kind) (v : A) → os kind v ≡ ps kind (f v)) → Meets (g gives f) ps
gives_meets {f = f} {ps = ps} G same = record {
  meets = λ v xs ys d σ ready. met_as (same (kind_of σ.item.role) d.0 ∙ ap (ps (kind_of σ.item.role)) d.1)
      (G.meets d.0 xs ys d.2 σ ready);
}

pub on_gives : {A B : Type 0} {g : Rule A} {f : A → B} {os : Meeting A} {ps : Meeting B}
    → MeetsOn g os → ((kind : Kind) (v : A) → os kind v ≡ ps kind (f v)) → MeetsOn (g gives f) ps
on_gives {f = f} {ps = ps} G same = record {
  meets = λ v xs ys d σ ready settled. met_as (same (kind_of σ.item.role) d.0 ∙ ap (ps (kind_of σ.item.role)) d.1)
      (G.meets d.0 xs ys d.2 σ ready settled);
}

pub makes_meets : {A B : Type 0} {g : Rule A} {f : A → Span → B} {os : Meeting A} {ps : Meeting B}
    → Meets g os → ((kind : Kind) (v : A) (s : Span) → os kind v ≡ ps kind (f v s)) → Meets (g makes f) ps
makes_meets {f = f} {ps = ps} G same = record {
  meets = λ v xs ys d σ ready. met_as (same (kind_of σ.item.role) d.0 _ ∙ ap (ps (kind_of σ.item.role)) d.1)
      (G.meets d.0 xs ys d.2 σ ready);
}

pub check_meets : {A : Type 0} {g : Rule A} {f : A → Span → Option Fault} {os : Meeting A}
    → Meets g os → Meets (g with_check f) os
check_meets G = record { meets = λ v xs ys d. G.meets v xs ys d.1 }

-- ---- a sign or a keyword, before a part, after it, or for a value
pub before_meets : {A : Type 0} (c : ℕ) → all_pass is_quiet (c ∷ []) ≡ true → {g : Rule A} {os : Meeting A}
    → MeetsOn g os → Meets (c ▹ g) os
before_meets c quiet G = gives_meets (then_meets (quiet_meets (c ∷ []) quiet) G) (λ kind v. refl)

pub after_meets : {A : Type 0} (c : ℕ) → all_pass is_quiet (c ∷ []) ≡ true → {g : Rule A} {os : Meeting A}
    → Meets g os → Meets (g ◃ c) os
after_meets c quiet {os = os} G = gives_meets (then_meets G (on (quiet_meets (c ∷ []) quiet)))
    (λ kind v. append-nil (os kind v.0))

pub means_meets : {A : Type 0} (c : ℕ) → all_pass is_quiet (c ∷ []) ≡ true → {a : A} {os : Meeting A}
    → ((kind : Kind) → [] ≡ os kind a) → Meets (c means a) os
means_meets c quiet same = gives_meets (quiet_meets (c ∷ []) quiet) (λ kind v. same kind)

-- ---- a part that may be left out, and parts one after another
abbrev pub maybe_of : {A : Type 0} → Meeting A → Meeting (Option A)
maybe_of os kind None = []
maybe_of os kind (Some v) = os kind v

pub optional_meets : {A : Type 0} {g : Rule A} {os : Meeting A} → Meets g os → MeetsOn (optional g) (maybe_of os)
optional_meets G = on_or (on (gives_meets G (λ kind v. refl))) (none_meets None (λ kind. refl))

pub chain_meets : {A B : Type 0} {f : A → B → Span → A} {g : Rule A} {h : Rule B} {os : Meeting A} {ps : Meeting B}
    → Meets g os → MeetsOn h ps
    → ((kind : Kind) (v : A) (x : B) (s : Span) → os kind v ++ ps kind x ≡ os kind (f v x s))
    → Meets (left_chain f g h) os
chain_meets {A} {B} {f} {g} {h} {os} {ps} G H same = record { meets = λ v xs ys d. go xs v ys d } where
  go : (xs : List Token) (v : A) (ys : List Token) → Chain f (Means checking Known g) (Means checking Known h) xs v ys
      → MetBy os v xs ys
  go xs _ _ (base a ys d) σ ready = G.meets a xs ys d σ ready
  go xs _ _ (more a b ys zs c d) σ ready = met_as (same (kind_of σ.item.role) a b _)
      (met_then (go xs a ys c σ ready) (H.meets b ys zs d (going_on σ) (ready_on ready) (settled σ)))

-- the parts of a list
abbrev pub each_of : {A : Type 0} → Meeting A → Meeting (List A)
each_of os kind = flat_map (os kind)
