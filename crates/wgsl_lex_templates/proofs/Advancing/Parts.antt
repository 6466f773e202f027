-- Equations of the parts of rules.
use Rattle.std.proofs.Common.{◌≡◌, ℕ, Bool, true, false, cond, eqb, List, [], ◌∷◌, ◌++◌, inl, inr, refl, sym, ap, ◌∙◌}
use Rattle.std.specs.Prelude.{Option, Some, None}
use Rattle.grammar.specs.Grammar.{is_among}
use Rattle.grammar.specs.Tables.{disjoint, subset}
use Rattle.grammar.proofs.Reading.Sets.{apart, cases, in_subset, clash}
use Rattle.grammar.proofs.States.{cond_self}
use Rattle.wgsl_lex_templates.specs.Advancing.{◌>>=◌, if_there, is_next, take, take_any}

pub bind_alike : (m : Option (List ℕ)) (f g : List ℕ → Option (List ℕ))
    → ((ds : List ℕ) → f ds ≡ g ds) → (m >>= f) ≡ (m >>= g)
bind_alike None f g h = refl
bind_alike (Some ds) f g h = h ds

pub there_alike : (m : Option (List ℕ)) (f g : List ℕ → Option (List ℕ)) (x y : Option (List ℕ))
    → ((ds : List ℕ) → f ds ≡ g ds) → x ≡ y → if_there m f x ≡ if_there m g y
there_alike None f g x y h e = e
there_alike (Some ds) f g x y h e = h ds

pub bind_bind : (m : Option (List ℕ)) (f g : List ℕ → Option (List ℕ)) → ((m >>= f) >>= g) ≡ (m >>= λ ds. f ds >>= g)
bind_bind None f g = refl
bind_bind (Some ds) f g = refl

pub cond_bind : (b : Bool) (x y : Option (List ℕ)) (f : List ℕ → Option (List ℕ))
    → cond b (x >>= f) (y >>= f) ≡ (cond b x y >>= f)
cond_bind true x y f = refl
cond_bind false x y f = refl

pub take_is : (c : ℕ) (cs : List ℕ) → take_any (c ∷ []) cs ≡ take c cs
unfolding take take_any
take_is c [] = refl
take_is c (d ∷ cs) = ap (λ (b : Bool). cond b (Some cs) None) (cond_self (eqb d c))

-- a part that begins with a token of these classes
where_next : (b : Bool) (cs : List ℕ) (f : List ℕ → Option (List ℕ)) (other : Option (List ℕ))
    → cond b (cond b (Some cs) None >>= f) other ≡ if_there (cond b (Some cs) None) f other
where_next true cs f other = refl
where_next false cs f other = refl

pub choice_is : (s cs : List ℕ) (f : List ℕ → Option (List ℕ)) (other : Option (List ℕ))
    → cond (is_next s cs) (take_any s cs >>= f) other ≡ if_there (take_any s cs) f other
unfolding take_any
choice_is s [] f other = refl
choice_is s (c ∷ cs) f other = where_next (is_among c s) cs f other

pub token_choice_is : (s cs : List ℕ) (other : Option (List ℕ))
    → cond (is_next s cs) (take_any s cs) other ≡ if_there (take_any s cs) Some other
token_choice_is s cs other =
    ap (λ (x : Option (List ℕ)). cond (is_next s cs) x other) (some_last (take_any s cs))
    ∙ choice_is s cs Some other
  where
    some_last : (m : Option (List ℕ)) → m ≡ (m >>= Some)
    some_last None = refl
    some_last (Some cs) = refl

-- a part that begins with one token
pub choice_of : (c : ℕ) (cs : List ℕ) (x : Option (List ℕ)) (f : List ℕ → Option (List ℕ))
    (other : Option (List ℕ)) → x ≡ (take_any (c ∷ []) cs >>= f)
    → cond (is_next (c ∷ []) cs) x other ≡ if_there (take c cs) f other
choice_of c cs x f other e =
    ap (λ (y : Option (List ℕ)). cond (is_next (c ∷ []) cs) y other) e
    ∙ choice_is (c ∷ []) cs f other ∙ ap (λ (m : Option (List ℕ)). if_there m f other) (take_is c cs)

pub token_choice_of : (c : ℕ) (cs : List ℕ) (other : Option (List ℕ))
    → cond (is_next (c ∷ []) cs) (take_any (c ∷ []) cs) other ≡ if_there (take c cs) Some other
token_choice_of c cs other = token_choice_is (c ∷ []) cs other
    ∙ ap (λ (m : Option (List ℕ)). if_there m Some other) (take_is c cs)

-- ---- several tokens
-- one of these classes, tried one by one
abbrev pub tokens : List ℕ → List ℕ → Option (List ℕ)
tokens [] cs = None
tokens (c ∷ []) cs = take_any (c ∷ []) cs
tokens (c ∷ (d ∷ s)) cs = cond (is_next (c ∷ []) cs) (take_any (c ∷ []) cs) (tokens (d ∷ s) cs)

one_more_class : (b : Bool) (x y z : Bool) (left : Option (List ℕ))
    → cond x (cond x left None) (cond y left None) ≡ cond z left None
    → cond (cond b true x) (cond (cond b true x) left None) (cond y left None) ≡ cond (cond b true z) left None
one_more_class true x y z left h = refl
one_more_class false x y z left h = h

pub either_token : (s r cs : List ℕ) → cond (is_next s cs) (take_any s cs) (take_any r cs) ≡ take_any (s ++ r) cs
unfolding take_any
either_token s r [] = refl
either_token s r (c ∷ cs) = in_either s
  where
    in_either : (s : List ℕ) → cond (is_among c s) (cond (is_among c s) (Some cs) None)
        (cond (is_among c r) (Some cs) None) ≡ cond (is_among c (s ++ r)) (Some cs) None
    in_either [] = refl
    in_either (d ∷ s) = one_more_class (eqb c d) (is_among c s) (is_among c r) (is_among c (s ++ r))
        (Some cs) (in_either s)

pub tokens_are : (s cs : List ℕ) → tokens s cs ≡ take_any s cs
unfolding take_any
tokens_are [] [] = refl
tokens_are [] (c ∷ cs) = refl
tokens_are (c ∷ []) cs = refl
tokens_are (c ∷ (d ∷ s)) cs =
    ap (λ (x : Option (List ℕ)). cond (is_next (c ∷ []) cs) (take_any (c ∷ []) cs) x) (tokens_are (d ∷ s) cs)
    ∙ either_token (c ∷ []) (d ∷ s) cs

-- ---- sets of classes
-- a part that begins with a token of one set, tried after another
pub later_choice : (s r cs : List ℕ) → disjoint r s ≡ true
    → (f : List ℕ → Option (List ℕ)) (x : Option (List ℕ)) → (is_next s cs ≡ false → x ≡ None)
    → cond (is_next s cs) x (take_any r cs >>= f) ≡ if_there (take_any r cs) f x
unfolding take_any
later_choice s r [] e f x h = sym (h refl)
later_choice s r (c ∷ cs) e f x h =
    elim (cases (is_among c r)) [
      | inl p ↦ rw (p, apart c r s e p) refl
      | inr p ↦ elim (cases (is_among c s)) [ inl q ↦ rw (p, q) refl | inr q ↦ rw (p, q) (sym (h q)) ]
    ]

-- equal sets
pub same_next : (s r cs : List ℕ) → subset s r ≡ true → subset r s ≡ true → is_next s cs ≡ is_next r cs
same_next s r [] e f = refl
same_next s r (c ∷ cs) e f =
    elim (cases (is_among c s)) [
      | inl p ↦ p ∙ sym (in_subset c s r e p)
      | inr p ↦ elim (cases (is_among c r)) [ inl q ↦ clash (is_among c s) (in_subset c r s f q) p | inr q ↦ p ∙ sym q ]
    ]
