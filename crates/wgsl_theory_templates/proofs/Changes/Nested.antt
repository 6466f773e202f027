-- Where template lists begin and end among kinds, and that tokens which are clear are split at a
-- template list's end in one way alone.
use Rattle.std.proofs.Common.{◌≡◌, ℕ, zero, suc, Bool, true, false, List, [], ◌∷◌, ◌++◌, refl, sym, ap, subst, ◌∙◌}
use Rattle.grammar.specs.Tokens.{Token}
use Rattle.grammar.specs.Grammar.{is_among}
use Rattle.grammar.proofs.Reading.Sets.{clash}
use Rattle.grammar.proofs.Faults.Anchors.{tail_of}
use Rattle.wgsl_model.specs.Tokens.ClassTable.{SymComma, SymColon, SymSemicolon, SymMinusMinus, SymLessThan, KwDefault, TemplateArgsStart, TemplateArgsEnd}
use Rattle.wgsl_model.specs.Tokens.Kind.{Kind}
use Rattle.wgsl_theory_templates.proofs.Reaching.Reach.{Role, Role.template_start, Role.template_end, role, Place, Place.inside, reach}
use Rattle.wgsl_theory_templates.proofs.Reaching.Moves.{kinds}
use Rattle.wgsl_theory_templates.specs.Attempts.{less_signs}
use Rattle.wgsl_theory_templates.proofs.Reaching.After.{NoListAt}
use Rattle.wgsl_theory_templates.proofs.Reaching.Clear.{template_ends, AllClear, done, other_token, template}
use Rattle.wgsl_theory_templates.proofs.Lexed.RoleClasses.{Says, role_says, is_mark_role}
use Rattle.wgsl_theory_templates.proofs.Changes.Edits.{Edits, at_the_end, kept, no_comma, no_colon, no_semicolon, two_minuses, with_case}
use Rattle.wgsl_theory_grammar.proofs.Tokens.Decided.{IsList}
use Rattle.wgsl_theory_grammar.proofs.Faults.PlainFaults.{one_class}

-- ---- kinds
-- after a token, a number of template lists deep
abbrev pub nested_role : Role → ℕ → (ℕ → Type 0) → Type 0
nested_role template_start k Next = Next (suc k)
nested_role template_end zero Next = ⊥
nested_role template_end (suc k) Next = Next k
nested_role r k Next = Next k

-- from a number of template lists deep, each is ended, and no other
abbrev pub Nested : ℕ → List Kind → Type 0
Nested k [] = k ≡ 0
Nested k (t ∷ ts) = nested_role (role t.class) k (λ j. Nested j ts)

-- a number of template lists deep within others
abbrev pub within : ℕ → ℕ → ℕ
within zero i = i
within (suc k) i = suc (within k i)

-- ---- a mark goes one level on or back, any other role leaves the level as it is
-- what holds at each level after a token holds at another number of levels, if that goes up by one
-- as the level does
nested_on : (r : Role) (out : ℕ → ℕ) (k : ℕ) (F G : ℕ → Type 0) → ((j : ℕ) → out (suc j) ≡ suc (out j))
    → ((j : ℕ) → F j → G (out j)) → nested_role r k F → nested_role r (out k) G
nested_on template_start out k F G e f h = subst G (e k) (f (suc k) h)
nested_on template_end out zero F G e f h = absurd h
nested_on template_end out (suc k) F G e f h = subst (λ (n : ℕ). nested_role template_end n G) (sym (e k)) (f k h)
nested_on r out k F G e f h = f k h

-- from two levels a token leads to two, which are the same where those are, and nowhere else
pub both_levels : (A : Type 0) (r : Role) (k i : ℕ) (F G : ℕ → Type 0)
    → ((j n : ℕ) → F j → G n → (k ≡ i → j ≡ n) → (j ≡ n → k ≡ i) → A) → nested_role r k F
    → nested_role r i G → A
both_levels A template_start k i F G f h g = f (suc k) (suc i) h g (λ e. ap (λ n. suc n) e) (λ e. cc)
both_levels A template_end zero i F G f h g = absurd h
both_levels A template_end (suc k) zero F G f h g = absurd g
both_levels A template_end (suc k) (suc i) F G f h g = f k i h g (λ e. cc) (λ e. ap (λ n. suc n) e)
both_levels A r k i F G f h g = f k i h g (λ e. e) (λ e. e)

-- with more after them
pub nested_after : (k i : ℕ) (us ts : List Token) → Nested k (kinds us) → Nested i (kinds ts)
    → Nested (within k i) (kinds (us ++ ts))
nested_after k i [] ts h g = subst (λ (n : ℕ). Nested (within n i) (kinds ts)) (sym h) g
nested_after k i (u ∷ us) ts h g = nested_on (role u.class) (λ j. within j i) k (λ j. Nested j (kinds us))
    (λ j. Nested j (kinds (us ++ ts))) (λ j. refl) (λ j f. nested_after j i us ts f g) h

pub same_head : (t u : Token) (ts us : List Token) → t ∷ ts ≡ u ∷ us → t ≡ u
same_head t u ts us e = cc

-- where no list is open none ends
none_ends : (t : Token) (ts : List Kind) (k : ℕ) → k ≡ 0 → role t.class ≡ template_end
    → nested_role (role t.class) k (λ j. Nested j ts) → ⊥
none_ends t ts k z e h = subst (λ (r : Role). nested_role r 0 (λ j. Nested j ts)) e
    (subst (λ (n : ℕ). nested_role (role t.class) n (λ j. Nested j ts)) z h)

-- two lists that begin alike and are both ended are the same
same_split : (k : ℕ) (us vs : List Token) (e f : Token) (ts rs : List Token) → role e.class ≡ template_end
    → role f.class ≡ template_end → Nested k (kinds us) → Nested k (kinds vs)
    → us ++ (e ∷ ts) ≡ vs ++ (f ∷ rs) → (us ≡ vs) × (ts ≡ rs)
same_split k [] [] e f ts rs p q h g w = (refl, tail_of e f ts rs w)
same_split k [] (v ∷ vs) e f ts rs p q h g w = absurd (none_ends v (kinds vs) k h
    (ap (λ (t : Token). role t.class) (sym (same_head e v ts (vs ++ (f ∷ rs)) w)) ∙ p) g)
same_split k (u ∷ us) [] e f ts rs p q h g w = absurd (none_ends u (kinds us) k g
    (ap (λ (t : Token). role t.class) (same_head u f (us ++ (e ∷ ts)) rs w) ∙ q) h)
same_split k (u ∷ us) (v ∷ vs) e f ts rs p q h g w =
    let head : u ≡ v = same_head u v (us ++ (e ∷ ts)) (vs ++ (f ∷ rs)) w in
    let both = both_levels ((us ≡ vs) × (ts ≡ rs)) (role u.class) k k (λ j. Nested j (kinds us))
    (λ j. Nested j (kinds vs))
    (λ j n a b on from. same_split j us vs e f ts rs p q a (subst (λ (m : ℕ). Nested m (kinds vs))
    (sym (on refl)) b) (tail_of u v (us ++ (e ∷ ts)) (vs ++ (f ∷ rs)) w)) h
    (subst (λ (t : Token). nested_role (role t.class) k (λ j. Nested j (kinds vs))) (sym head) g) in
    (λ i. head i ∷ both.0 i, both.1)

-- ---- tokens that are clear
start_role : (c : ℕ) → is_among c (TemplateArgsStart ∷ []) ≡ true → role c ≡ template_start
start_role c h = ap role (one_class c TemplateArgsStart h)

end_role : (c : ℕ) → is_among c (TemplateArgsEnd ∷ []) ≡ true → role c ≡ template_end
end_role c h = ap role (one_class c TemplateArgsEnd h)

-- a token that is no mark
unmarked : (c : ℕ) → is_among c template_ends ≡ false → is_mark_role (role c) ≡ false
unmarked c h = go (role c) (role_says c) where
  go : (r : Role) → Says c r → is_mark_role r ≡ false
  go template_start s = clash _ (ap (λ (x : ℕ). is_among x template_ends) (one_class c TemplateArgsStart s)) h
  go template_end s = clash _ (ap (λ (x : ℕ). is_among x template_ends) (one_class c TemplateArgsEnd s)) h
  go r s = refl

pub unmarked_nested : (r : Role) (k : ℕ) (Next : ℕ → Type 0) → is_mark_role r ≡ false → Next k → nested_role r k Next
unmarked_nested template_start k Next e h = absurd cc
unmarked_nested template_end k Next e h = absurd cc
unmarked_nested r k Next e h = h

pub clear_nested : (p : Place) (xs ys : List Token) → AllClear p xs ys → ys ≡ [] → Nested 0 (kinds xs)
clear_nested _ _ _ (done p ys) e = subst (λ (z : List Token). Nested 0 (kinds z)) (sym e) refl
clear_nested _ _ _ (other_token p t rest ys none less a) e = unmarked_nested (role t.class) 0
    (λ j. Nested j (kinds rest)) (unmarked t.class none) (clear_nested p rest ys a e)
clear_nested _ _ _ (template p start end mid rest ys v h i d c a) e =
    let following : Nested 1 (kinds (end ∷ rest)) = subst (λ (r : Role). nested_role r 1
    (λ j. Nested j (kinds rest))) (sym (end_role end.class i)) (clear_nested p rest ys a e) in
    subst (λ (r : Role). nested_role r 0 (λ j. Nested j (kinds (mid ++ (end ∷ rest)))))
    (sym (start_role start.class h))
    (nested_after 0 1 mid (end ∷ rest) (clear_nested inside mid [] c refl) following)

-- what is clear after a token that is no mark
pub clear_after : (p : Place) (xs ys : List Token) → AllClear p xs ys → ys ≡ []
    → (t : Token) (ts : List Token) → xs ≡ t ∷ ts → is_mark_role (role t.class) ≡ false
    → (t.class ≡ SymLessThan → NoListAt p ts → reach p 0 0 (kinds ts) ≡ false) × AllClear p ts []
clear_after _ _ _ (done p ys) e t ts w m = absurd (cc)
clear_after _ _ _ (other_token p u rest ys none less a) e t ts w m =
    let head = same_head u t rest ts w in
    let tail = tail_of u t rest ts w in (
      λ l n. subst (λ (z : List Token). reach p 0 0 (kinds z) ≡ false) tail
          (less (ap (λ (x : Token). is_among x.class less_signs) head ∙ ap (λ (x : ℕ). is_among x less_signs) l)
          (subst (λ (z : List Token). NoListAt p z) (sym tail) n)),
      subst (λ (z : List Token). AllClear p z []) tail (subst (λ (z : List Token). AllClear p rest z) e a),
    )
clear_after _ _ _ (template p start end mid rest ys v h i d c a) e t ts w m =
    clash _ (ap (λ (x : Token). is_mark_role (role x.class))
    (sym (same_head start t (mid ++ (end ∷ rest)) ts w)) ∙ ap is_mark_role (start_role start.class h)) m

-- what is clear in a template list and after it
pub clear_template : (p : Place) (xs ys : List Token) → AllClear p xs ys → ys ≡ []
    → (start end : Token) (us ts : List Token) → xs ≡ start ∷ (us ++ (end ∷ ts))
    → role start.class ≡ template_start → role end.class ≡ template_end → Nested 0 (kinds us)
    → AllClear inside us [] × IsList us × AllClear p ts []
clear_template _ _ _ (done p ys) e start end us ts w f g n = absurd (cc)
clear_template _ _ _ (other_token p u rest ys none less a) e start end us ts w f g n =
    clash _ (ap (λ (x : Token). is_mark_role (role x.class))
    (same_head u start rest (us ++ (end ∷ ts)) w) ∙ ap is_mark_role f) (unmarked u.class none)
clear_template _ _ _ (template p first last mid rest ys v h i d c a) e start end us ts w f g n =
    let same = same_split 0 mid us last end rest ts (end_role last.class i) g (clear_nested inside
    mid [] c refl) n (tail_of first start (mid ++ (last ∷ rest)) (us ++ (end ∷ ts)) w) in (
      subst (λ (z : List Token). AllClear inside z []) same.0 c,
      subst IsList same.0 (v, d),
      subst (λ (z : List Token). AllClear p z []) same.1
          (subst (λ (z : List Token). AllClear p rest z) e a),
    )

-- ---- what is written
-- a token of a plain role is passed
passed : (c a k : ℕ) (Next : ℕ → Type 0) → c ≡ a → is_mark_role (role a) ≡ false → nested_role (role c) k Next → Next k
passed c a k Next q m h = go (role a) m (subst (λ (x : ℕ). nested_role (role x) k Next) q h) where
  go : (r : Role) → is_mark_role r ≡ false → nested_role r k Next → Next k
  go template_start m h = absurd cc
  go template_end m h = absurd cc
  go r m h = h

-- template lists are written as they were read
pub edits_nested : (b : Bool) (s c : List Kind) → Edits b s c → (k : ℕ) → Nested k s → Nested k c
edits_nested _ _ _ (at_the_end b) k h = h
edits_nested _ _ _ (kept b t j s c q m) k h =
    subst (λ (x : ℕ). nested_role (role x) k (λ i. Nested i c)) q (nested_on (role t.class)
    (λ i. i) k (λ i. Nested i s) (λ i. Nested i c) (λ i. refl) (λ i g. edits_nested _ s c m i g) h)
edits_nested _ _ _ (no_comma b t s c q f m) k h = edits_nested false s c m k
    (passed t.class SymComma k (λ i. Nested i s) q refl h)
edits_nested _ _ _ (no_colon b t s c q f m) k h = edits_nested false s c m k
    (passed t.class SymColon k (λ i. Nested i s) q refl h)
edits_nested _ _ _ (no_semicolon t s c q m) k h = edits_nested true s c m k
    (passed t.class SymSemicolon k (λ i. Nested i s) q refl h)
edits_nested _ _ _ (two_minuses b t s c q m) k h = edits_nested false s c m k
    (passed t.class SymMinusMinus k (λ i. Nested i s) q refl h)
edits_nested _ _ _ (with_case b t s c q m) k h = edits_nested false s c m k
    (passed t.class KwDefault k (λ i. Nested i s) q refl h)
