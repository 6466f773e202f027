-- How a token, and a list of tokens, leads from one nesting of `reach` to another.
use Rattle.std.proofs.Common.{◌≡◌, ℕ, zero, suc, Bool, true, false, List, [], ◌∷◌, ◌++◌, map, refl, sym, ap, subst, ◌∙◌, append_assoc}
use Rattle.grammar.specs.Tokens.{Token, first_tokens}
use Rattle.grammar.specs.Grammar.{Mode.checking, Means, is_among}
use Rattle.grammar.proofs.Reading.Exact.{same_front}
use Rattle.grammar.proofs.Reading.Frame.{framed, framed_part}
use Rattle.wgsl_model.specs.Tokens.Kind.{Kind}
use Rattle.wgsl_model.specs.Grammar.Symbols.{Rule}
use Rattle.wgsl_model.specs.Grammar.Written.{written}
use Rattle.wgsl_theory_grammar.proofs.Tokens.Classes.{all_pass, passes_on}
use Rattle.wgsl_theory_reread.specs.CanonicalUnits.{without_place}
use Rattle.wgsl_theory_reread.proofs.Again.{D}
use Rattle.wgsl_theory_templates.proofs.Reaching.Reach.{Role, name, greater, opening, closing, short_circuit, other, template_start, template_end, role, Place, reach_role, reach, ahead_role, ahead}

-- the kinds of tokens
abbrev pub kinds : List Token → List Kind
kinds = map without_place

-- the tokens that are before the one that is reached
abbrev pub stretch : ℕ → ℕ → List Token → List Token
stretch k d xs = first_tokens (ahead k d (kinds xs)) xs

-- ---- one token
-- a role leads from one nesting to another
pub record Moves (r : Role) (k d j e : ℕ) : Type 0 where
  pub reached : (next : ℕ → ℕ → Bool) → reach_role r k d next ≡ next j e
  pub counted : (next : ℕ → ℕ → ℕ) → ahead_role r k d next ≡ suc (next j e)

-- within a template list, or within brackets
abbrev pub is_inner : ℕ → ℕ → Bool
is_inner zero zero = false
is_inner zero (suc d) = true
is_inner (suc k) d = true

-- a number of brackets deep within one bracket more: those in a template list are not counted
abbrev pub bracketed : ℕ → ℕ → ℕ
bracketed zero d = suc d
bracketed (suc k) d = d

pub bracketed_is_inner : (k d : ℕ) → is_inner k (bracketed k d) ≡ true
bracketed_is_inner zero d = refl
bracketed_is_inner (suc k) d = refl

pub opening_moves : (k d : ℕ) → Moves opening k d k (bracketed k d)
opening_moves zero d = record { reached = λ f. refl; counted = λ f. refl }
opening_moves (suc k) d = record { reached = λ f. refl; counted = λ f. refl }

pub closing_moves : (k d : ℕ) → Moves closing k (bracketed k d) k d
closing_moves zero d = record { reached = λ f. refl; counted = λ f. refl }
closing_moves (suc k) d = record { reached = λ f. refl; counted = λ f. refl }

pub template_start_moves : (k d : ℕ) → Moves template_start k d (suc k) d
template_start_moves k d = record { reached = λ f. refl; counted = λ f. refl }

pub template_end_moves : (k d : ℕ) → Moves template_end (suc k) d k d
template_end_moves k d = record { reached = λ f. refl; counted = λ f. refl }

-- a name or a plain token
abbrev pub is_flat : Role → Bool
is_flat name = true
is_flat other = true
is_flat r = false

pub flat_moves : (r : Role) (k d : ℕ) → is_flat r ≡ true → Moves r k d k d
flat_moves name zero d h = record { reached = λ f. refl; counted = λ f. refl }
flat_moves name (suc k) d h = record { reached = λ f. refl; counted = λ f. refl }
flat_moves other zero d h = record { reached = λ f. refl; counted = λ f. refl }
flat_moves other (suc k) d h = record { reached = λ f. refl; counted = λ f. refl }
flat_moves r k d h = absurd cc

-- what is so within template lists and brackets
abbrev pub is_flat_inside : Role → Bool
is_flat_inside name = true
is_flat_inside other = true
is_flat_inside greater = true
is_flat_inside short_circuit = true
is_flat_inside r = false

pub inner_moves : (r : Role) (k d : ℕ) → is_inner k d ≡ true → is_flat_inside r ≡ true → Moves r k d k d
inner_moves name zero d i h = record { reached = λ f. refl; counted = λ f. refl }
inner_moves other zero d i h = record { reached = λ f. refl; counted = λ f. refl }
inner_moves greater zero (suc d) i h = record { reached = λ f. refl; counted = λ f. refl }
inner_moves short_circuit zero (suc d) i h = record { reached = λ f. refl; counted = λ f. refl }
inner_moves name (suc k) d i h = record { reached = λ f. refl; counted = λ f. refl }
inner_moves other (suc k) d i h = record { reached = λ f. refl; counted = λ f. refl }
inner_moves greater (suc k) d i h = record { reached = λ f. refl; counted = λ f. refl }
inner_moves short_circuit (suc k) d i h = record { reached = λ f. refl; counted = λ f. refl }
inner_moves r zero zero i h = absurd cc
inner_moves r k d i h = absurd cc

-- ---- the roles of classes
-- the roles of all classes of a list pass a test
abbrev pub all_roles : (Role → Bool) → List ℕ → Bool
all_roles test = all_pass (λ c. test (role c))

pub role_of : (test : Role → Bool) (c : ℕ) (s : List ℕ) → all_roles test s ≡ true
    → is_among c s ≡ true → test (role c) ≡ true
role_of test = passes_on (λ c. test (role c))

-- ---- a list of tokens
-- the tokens from a list to the list after them lead from one nesting to another
pub record Passes (p : Place) (k d j e : ℕ) (xs ys : List Token) : Type 0 where
  pub tokens : List Token
  pub whole : xs ≡ tokens ++ ys
  pub reached : reach p k d (kinds xs) ≡ reach p j e (kinds ys)
  pub stretched : stretch k d xs ≡ tokens ++ stretch j e ys

pub none_passes : {p : Place} {k d : ℕ} {xs ys : List Token} → xs ≡ ys → Passes p k d k d xs ys
none_passes {p} {k} {d} {xs} {ys} w = record {
  tokens = [];
  whole = w;
  reached = ap (λ (z : List Token). reach p k d (kinds z)) w;
  stretched = ap (stretch k d) w;
}

pub token_passes : {p : Place} {k d j e : ℕ} {t : Token} {xs ys : List Token}
    → Moves (role t.class) k d j e → xs ≡ t ∷ ys → Passes p k d j e xs ys
token_passes {p} {k} {d} {j} {e} {t} {xs} {ys} m w = record {
  tokens = t ∷ [];
  whole = w;
  reached = ap (λ (z : List Token). reach p k d (kinds z)) w ∙ m.reached (λ i f. reach p i f (kinds ys));
  stretched = ap (stretch k d) w ∙ ap (λ (n : ℕ). first_tokens n (t ∷ ys)) (m.counted (λ i f. ahead i f (kinds ys)));
}

pub both_pass : {p : Place} {k d j e i f : ℕ} {xs ys zs : List Token} → Passes p k d j e xs ys
    → Passes p j e i f ys zs → Passes p k d i f xs zs
both_pass {i = i} {f = f} {zs = zs} a b = record {
  tokens = a.tokens ++ b.tokens;
  whole = a.whole ∙ ap (λ (z : List Token). a.tokens ++ z) b.whole
      ∙ sym (append_assoc a.tokens b.tokens zs);
  reached = a.reached ∙ b.reached;
  stretched = a.stretched ∙ ap (λ (z : List Token). a.tokens ++ z) b.stretched
      ∙ sym (append_assoc a.tokens b.tokens (stretch i f zs));
}

-- ---- derivations before the token that is reached
-- what is derived from the tokens that are passed is derived from them there
pub passed_derives : {p : Place} {k d j e : ℕ} {xs ys : List Token} {A : Type 0} (g : Rule A) (v : A)
    → Passes p k d j e xs ys → Means checking D g v xs ys
    → Means checking D g v (stretch k d xs) (stretch j e ys)
passed_derives {k = k} {d = d} {j = j} {e = e} {xs = xs} {ys = ys} g v a h =
    let w = framed checking D (framed_part checking written) g v xs ys h in
    let same : w.0 ≡ a.tokens = same_front w.0 a.tokens ys (sym w.1 ∙ a.whole) in
    subst (λ (z : List Token). Means checking D g v z (stretch j e ys))
    (ap (λ (z : List Token). z ++ stretch j e ys) same ∙ sym a.stretched) (w.2 (stretch j e ys))
