-- In tokens that are clear, no token that begins with `>` is reached after a `<` or `<<` either,
-- where template lists begin and end in pairs after it.
use Rattle.std.proofs.Common.{◌≡◌, ℕ, zero, suc, Bool, true, false, List, [], ◌∷◌, ◌++◌, length, refl, sym, ap, subst, ◌∙◌}
use Rattle.grammar.specs.Tokens.{Token}
use Rattle.grammar.specs.Grammar.{is_among}
use Rattle.grammar.specs.Tables.{disjoint}
use Rattle.grammar.proofs.Reading.Sets.{clash, apart}
use Rattle.grammar.proofs.Faults.Anchors.{tail_of}
use Rattle.wgsl_model.specs.Tokens.ClassTable.{SymLessThan, TemplateArgsStart, TemplateArgsEnd}
use Rattle.wgsl_model.specs.Tokens.Kind.{Kind}
use Rattle.wgsl_model.specs.Tokens.Raw.{token, raw}
use Rattle.wgsl_model.specs.Tokens.Templates.{TemplateRelation, Inside, at_greater, at_opening, at_closing, at_template, at_other, Enclosed, enclosed, TemplateUpTo, Template}
use Rattle.wgsl_theory_grammar.proofs.Faults.PlainFaults.{one_class}
use Rattle.wgsl_theory_templates.proofs.Reaching.Reach.{Role, Role.template_end, role, Place, inside, reach}
use Rattle.wgsl_theory_templates.proofs.Reaching.Moves.{kinds}
use Rattle.wgsl_theory_templates.specs.Attempts.{less_signs}
use Rattle.wgsl_theory_templates.proofs.Reaching.After.{NoListAt}
use Rattle.wgsl_theory_templates.proofs.Reaching.Clear.{AllClear, done, other_token, template}
use Rattle.wgsl_theory_templates.proofs.Lexed.RawClasses.{raw_unmarked}
use Rattle.wgsl_theory_templates.proofs.Changes.Nested.{nested_role, Nested, within, both_levels, nested_after, same_head, unmarked_nested, clear_nested}

-- ---- what is inside a template list
-- the template lists of a relation are ended, and so are those within them
abbrev AllNested : TemplateRelation → Type 0
AllNested R = (text : List ℕ) (ts : List Token) (rest : List ℕ) → R text ts rest → Nested 0 (kinds ts)

one_nested : (text from after : List ℕ) (k : Kind) (ts : List Kind) → raw text ≡ token k from after
    → Nested 0 ts → Nested 0 (k ∷ ts)
one_nested text from after k ts r h = unmarked_nested (role k.class) 0 (λ j. Nested j ts)
    (raw_unmarked text from after k r) h

inside_nested : (total : ℕ) (R : TemplateRelation) → AllNested R
    → (depth : ℕ) (text : List ℕ) (ts : List Token) (end : List ℕ)
    → Inside total R depth text ts end → Nested 0 (kinds ts)
inside_nested total R c depth text ts end (at_greater t e after k r g) = refl
inside_nested total R c depth text ts end (at_opening d t from after e k us r g h) =
    one_nested text from after k (kinds us) r (inside_nested total R c (suc depth) after us end h)
inside_nested total R c depth text ts end (at_closing d t from after e k us r g h) =
    one_nested text from after k (kinds us) r (inside_nested total R c d after us end h)
inside_nested total R c depth text ts end (at_template d t from after rest e k us vs r w q h) =
    one_nested text from after k (kinds (us ++ vs)) r
    (nested_after 0 0 us vs (c after us rest q) (inside_nested total R c depth rest vs end h))
inside_nested total R c depth text ts end (at_other d t from after e k us r g n h) =
    one_nested text from after k (kinds us) r (inside_nested total R c depth after us end h)

enclosed_nested : (total : ℕ) (R : TemplateRelation) → AllNested R → AllNested (Enclosed total R)
enclosed_nested total R c text ts rest (enclosed t from after end k us v r s h d) =
    nested_after 0 1 us _ (inside_nested total R c 0 after us end h) refl

up_to_nested : (n total : ℕ) → AllNested (TemplateUpTo n total)
up_to_nested zero total text ts rest h = absurd h
up_to_nested (suc n) total text ts rest h = enclosed_nested total (TemplateUpTo n total)
    (up_to_nested n total) text ts rest h

pub all_nested : (total depth : ℕ) (text : List ℕ) (ts : List Token) (end : List ℕ)
    → Inside total (Template total) depth text ts end → Nested 0 (kinds ts)
all_nested total depth text ts end h = inside_nested total (Template total)
    (λ s us rest q. up_to_nested (length s) total s us rest q) depth text ts end h

-- ---- a number of template lists deep
-- tokens that end each list are so from one number of lists alone
same_level : (ts : List Kind) (j i : ℕ) → Nested j ts → Nested i ts → j ≡ i
same_level [] j i h g = h ∙ sym g
same_level (t ∷ ts) j i h g = both_levels (j ≡ i) (role t.class) j i (λ n. Nested n ts)
    (λ n. Nested n ts) (λ a b f g on from. from (same_level ts a b f g)) h g

-- after some of the tokens
level_after : (us ts : List Token) (k : ℕ) → Nested k (kinds (us ++ ts)) → (j : ℕ) × Nested j (kinds ts)
level_after [] ts k h = (k, h)
level_after (u ∷ us) ts k h =
    let After : ℕ → Type 0 = λ j. Nested j (kinds (us ++ ts)) in
    both_levels ((j : ℕ) × Nested j (kinds ts)) (role u.class) k k After After
    (λ j n g g' on from. level_after us ts j g) h h

one_more_within : (j : ℕ) → within j 1 ≡ 0 → ⊥
one_more_within zero e = cc
one_more_within (suc j) e = cc

-- tokens of which each list is ended do not go from within a template list over its end
no_end_between : (us vs rest : List Token) (l end : Token) → Nested 0 (kinds (us ++ (l ∷ vs)))
    → role end.class ≡ template_end → Nested 0 (kinds rest) → Nested 0 (kinds (vs ++ (end ∷ rest))) → ⊥
no_end_between us vs rest l end h e n g =
    let k = level_after (us ++ (l ∷ [])) vs 0 (subst (λ (z : List Token). Nested 0 (kinds z)) (split us) h) in
    let last : Nested 1 (kinds (end ∷ rest)) =
    subst (λ (r : Role). nested_role r 1 (λ j. Nested j (kinds rest))) (sym e) n in
    one_more_within k.0
    (same_level (kinds (vs ++ (end ∷ rest))) (within k.0 1) 0 (nested_after k.0 1 vs (end ∷ rest) k.1 last) g)
  where
    split : (us : List Token) → us ++ (l ∷ vs) ≡ (us ++ (l ∷ [])) ++ vs
    split [] = refl
    split (u ∷ us) = ap (λ (z : List Token). u ∷ z) (split us)

-- ---- tokens that are clear
-- where a token is in a list that is made of two: in the first, or in the second
data Where (ms ns xs : List Token) (l : Token) (ys : List Token) : Type 0 where
  in_first : (vs : List Token) → ms ≡ xs ++ (l ∷ vs) → ys ≡ vs ++ ns → Where ms ns xs l ys
  in_second : (us : List Token) → xs ≡ ms ++ us → ns ≡ us ++ (l ∷ ys) → Where ms ns xs l ys

one_further : (a x : Token) (ms ns xs : List Token) (l : Token) (ys : List Token) → a ≡ x
    → Where ms ns xs l ys → Where (a ∷ ms) ns (x ∷ xs) l ys
one_further a x ms ns xs l ys e (in_first vs f g) = in_first vs (λ i. e i ∷ f i) g
one_further a x ms ns xs l ys e (in_second us f g) = in_second us (λ i. sym e i ∷ f i) g

stands : (ms ns xs : List Token) (l : Token) (ys : List Token) → ms ++ ns ≡ xs ++ (l ∷ ys) → Where ms ns xs l ys
stands [] ns xs l ys e = in_second xs refl e
stands (a ∷ ms) ns [] l ys e = in_first ms (λ i. same_head a l (ms ++ ns) ys e i ∷ ms)
    (sym (tail_of a l (ms ++ ns) ys e))
stands (a ∷ ms) ns (x ∷ xs) l ys e = one_further a x ms ns xs l ys
    (same_head a x (ms ++ ns) (xs ++ (l ∷ ys)) e)
    (stands ms ns xs l ys (tail_of a x (ms ++ ns) (xs ++ (l ∷ ys)) e))

abbrev pub NotReachedAfter : Place → List Token → Type 0
NotReachedAfter p ys = NoListAt p ys → reach p 0 0 (kinds ys) ≡ false

-- a `<` passes no test that no `<` passes
pub no_less : (test : ℕ → Bool) (c : ℕ) → test c ≡ true → test SymLessThan ≡ false → c ≡ SymLessThan → ⊥
no_less test c m f e = clash _ m (ap test e ∙ f)

no_token : (us : List Token) (l : Token) (ys : List Token) → [] ≡ us ++ (l ∷ ys) → ⊥
no_token [] l ys w = cc
no_token (u ∷ us) l ys w = cc

-- nor is such an operator a token of other classes
no_sign : (s : List ℕ) (t l : Token) → disjoint s less_signs ≡ true → is_among t.class s ≡ true
    → is_among l.class less_signs ≡ true → t ≡ l → ⊥
no_sign s t l d m c e = clash _ (ap (λ (x : Token). is_among x.class less_signs) e ∙ c) (apart t.class s less_signs d m)

-- a `<` after the start of a template list is after its end
by_place : (p : Place) (mid rest us ys : List Token) (l end : Token)
    → is_among end.class (TemplateArgsEnd ∷ []) ≡ true → is_among l.class less_signs ≡ true
    → Nested 0 (kinds mid) → Nested 0 (kinds rest) → Nested 0 (kinds ys)
    → ((bs : List Token) → rest ≡ bs ++ (l ∷ ys) → reach p 0 0 (kinds ys) ≡ false)
    → Where mid (end ∷ rest) us l ys → reach p 0 0 (kinds ys) ≡ false
by_place p mid rest us ys l end i c m r n again (in_first vs f g) =
    absurd (no_end_between us vs rest l end (subst (λ (z : List Token). Nested 0 (kinds z)) f m)
    (ap role (one_class end.class TemplateArgsEnd i)) r (subst (λ (z : List Token). Nested 0 (kinds z)) g n))
by_place p mid rest us ys l end i c m r n again (in_second [] f g) =
    absurd (no_sign (TemplateArgsEnd ∷ []) end l refl i c (same_head end l rest ys g))
by_place p mid rest us ys l end i c m r n again (in_second (b ∷ bs) f g) = again bs
    (tail_of end b rest (bs ++ (l ∷ ys)) g)

-- after a `<` in them, where each list that begins after it is ended and no other
pub clear_at : (p : Place) (xs zs : List Token) → AllClear p xs zs → zs ≡ []
    → (us : List Token) (l : Token) (ys : List Token) → xs ≡ us ++ (l ∷ ys)
    → is_among l.class less_signs ≡ true → Nested 0 (kinds ys) → NotReachedAfter p ys
clear_at _ _ _ (done p zs) e us l ys w c n none_at = absurd (no_token us l ys (sym e ∙ w))
clear_at _ _ _ (other_token p t rest zs none less a) e [] l ys w c n none_at =
    let head = same_head t l rest ys w in
    let tail = tail_of t l rest ys w in
    let is_less : is_among t.class less_signs ≡ true = ap (λ (x : Token). is_among x.class less_signs) head ∙ c in
    subst (λ (z : List Token). reach p 0 0 (kinds z) ≡ false) tail
    (less is_less (subst (λ (z : List Token). NoListAt p z) (sym tail) none_at))
clear_at _ _ _ (other_token p t rest zs none less a) e (u ∷ us) l ys w c n none_at =
    clear_at p rest zs a e us l ys (tail_of t u rest (us ++ (l ∷ ys)) w) c n none_at
clear_at _ _ _ (template p start end mid rest zs v h i d k a) e [] l ys w c n none_at =
    absurd (no_sign (TemplateArgsStart ∷ []) start l refl h c (same_head start l (mid ++ (end ∷ rest)) ys w))
clear_at _ _ _ (template p start end mid rest zs v h i d k a) e (u ∷ us) l ys w c n none_at =
    by_place p mid rest us ys l end i c (clear_nested inside mid [] k refl)
    (clear_nested p rest zs a e) n (λ bs f. clear_at p rest zs a e bs l ys f c n none_at)
    (stands mid (end ∷ rest) us l ys (tail_of start u (mid ++ (end ∷ rest)) (us ++ (l ∷ ys)) w))
