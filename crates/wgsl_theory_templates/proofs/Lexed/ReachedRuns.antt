-- Where a token that begins with `>` is reached after a `<`, the text has a run up to it.
use Rattle.std.proofs.Common.{◌≡◌, ℕ, zero, suc, ◌+◌, ◌≤◌, Bool, true, false, List, [], ◌∷◌, ◌++◌, map, drop, length, refl, sym, ap, subst, ◌∙◌, arith}
use Rattle.std.proofs.lemmas.List.{map-append, length-map}
use Rattle.grammar.specs.Tokens.{Token, first_tokens}
use Rattle.grammar.specs.Endings.{Ending, Ending.finished}
use Rattle.grammar.proofs.Reading.Sets.{clash}
use Rattle.wgsl_model.specs.Tokens.ClassTable.{TemplateArgsStart, TemplateArgsEnd}
use Rattle.wgsl_model.specs.Tokens.Kind.{Kind, plain}
use Rattle.wgsl_model.specs.Tokens.Raw.{token, raw}
use Rattle.wgsl_model.specs.Tokens.Templates.{is_word, goes_on, TemplateRelation, NoTemplate, Inside, at_greater, at_opening, at_closing, at_template, at_other, Enclosed, enclosed, TemplateUpTo, Template}
use Rattle.wgsl_model.specs.Tokens.TokenList.{TokensOf, at_end, at_fault, before_template, before_more}
use Rattle.wgsl_theory_grammar.proofs.Tokens.Classes.{word_goes_on, opening_word, closing_word, no_bracket}
use Rattle.wgsl_theory_grammar.proofs.Tokens.Inside.{at}
use Rattle.wgsl_theory_reread.specs.CanonicalUnits.{without_place}
use Rattle.wgsl_theory_templates.proofs.Reaching.Reach.{Role, Role.name, Role.keyword, Role.greater, Role.greater_stop, Role.opening, Role.closing, Role.short_circuit, Role.stop, Role.other, Role.template_start, Role.template_end, role, Place, Place.outside, Place.inside, reach_role, reach, ahead_role, ahead}
use Rattle.wgsl_theory_templates.proofs.Lexed.Shapes.{is_word_role}
use Rattle.wgsl_theory_templates.proofs.Lexed.RoleClasses.{Says, role_says, is_mark_role, opening_role, closing_role, word_role, plain_goes_on, greater_goes_on, short_circuit_goes_on}
use Rattle.wgsl_theory_templates.proofs.Lexed.PassedOver.{Balanced, Closed, no_kinds, one_more, closed_template, over_closed, front_over}
use Rattle.wgsl_theory_templates.proofs.Lexed.RawClasses.{raw_unmarked}

-- ---- template lists are passed over
-- the tokens of a relation are passed over anywhere
abbrev pub AllClosed : TemplateRelation → Type 0
AllClosed R = (text : List ℕ) (ts : List Token) (rest : List ℕ) → R text ts rest → Closed (map without_place ts)

inside_balanced : (total : ℕ) (R : TemplateRelation) → AllClosed R
    → (depth : ℕ) (text : List ℕ) (ts : List Token) (end : List ℕ)
    → Inside total R depth text ts end → Balanced (map without_place ts)
inside_balanced total R c depth text ts end (at_greater t e after k r g) = no_kinds
inside_balanced total R c depth text ts end (at_opening d t from after e k us r g h) = one_more k
    (map without_place us) (raw_unmarked text from after k r)
    (inside_balanced total R c (suc depth) after us end h)
inside_balanced total R c depth text ts end (at_closing d t from after e k us r g h) = one_more k
    (map without_place us) (raw_unmarked text from after k r) (inside_balanced total R c d after us end h)
inside_balanced total R c depth text ts end (at_template d t from after rest e k us vs r w q h) =
    one_more k (map without_place (us ++ vs)) (raw_unmarked text from after k r)
    (subst Balanced (sym (map-append without_place us vs)) (over_closed (map without_place us)
    (map without_place vs) (c after us rest q) (inside_balanced total R c depth rest vs end h)))
inside_balanced total R c depth text ts end (at_other d t from after e k us r g n h) = one_more k
    (map without_place us) (raw_unmarked text from after k r)
    (inside_balanced total R c depth after us end h)

enclosed_closed : (total : ℕ) (R : TemplateRelation) → AllClosed R → AllClosed (Enclosed total R)
enclosed_closed total R c text ts rest (enclosed t from after end k us v r s h d) =
    let last = at total (plain TemplateArgsEnd) end (drop 1 end) in
    subst Closed
    (ap (λ (x : List Kind). plain TemplateArgsStart ∷ x) (sym (map-append without_place us (last ∷ []))))
    (closed_template (plain TemplateArgsStart) (plain TemplateArgsEnd)
    (map without_place us) refl refl (inside_balanced total R c 0 after us end h))

up_to_closed : (n total : ℕ) → AllClosed (TemplateUpTo n total)
up_to_closed zero total text ts rest h = absurd h
up_to_closed (suc n) total text ts rest h = enclosed_closed total (TemplateUpTo n total)
    (up_to_closed n total) text ts rest h

pub template_closed : (total : ℕ) → AllClosed (Template total)
template_closed total text ts rest h = up_to_closed (length text) total text ts rest h

-- ---- the run up to the token that is reached
-- the tokens before it are inside a template list
abbrev pub Reached : ℕ → TemplateRelation → ℕ → List ℕ → List Token → Type 0
Reached total R d text ts = (end : List ℕ)
    × Inside total R d text (first_tokens (ahead 0 d (map without_place ts)) ts) end

-- how many brackets are open after a token
abbrev next_depth : Role → ℕ → ℕ
next_depth opening d = suc d
next_depth closing zero = zero
next_depth closing (suc d) = d
next_depth r d = d

-- what the role of a token does to the run
abbrev ByRole : ℕ → TemplateRelation → Place → ℕ → List ℕ → Kind → List ℕ → List ℕ → List Token → Role → Type 0
ByRole total R p d text k from after us r =
    Says k.class r → is_mark_role r ≡ false
    → (reach p 0 (next_depth r d) (map without_place us) ≡ true → Reached total R (next_depth r d) after us)
    → reach_role r 0 d (λ i j. reach p i j (map without_place us)) ≡ true
    → (end : List ℕ) × Inside total R d text (first_tokens (ahead_role r 0 d
    (λ i j. ahead i j (map without_place us))) (at total k from after ∷ us)) end

by_role : (total : ℕ) (R : TemplateRelation) (p : Place) (r : Role) (d : ℕ) (text : List ℕ)
    (k : Kind) (from after : List ℕ) (us : List Token) → raw text ≡ token k from after
    → (is_word k.class ≡ true → NoTemplate R after)
    → ByRole total R p d text k from after us r
by_role total R p name d text k from after us e n s m go h =
    let g = go h in (g.0, at_other d text from after g.0 k _ e (word_goes_on d k.class s) n g.1)
by_role total R p keyword d text k from after us e n s m go h = absurd cc
by_role total R p greater zero text k from after us e n s m go h = (from, at_greater text from after k e s)
by_role total R p greater (suc d) text k from after us e n s m go h =
    let g = go h in (g.0, at_other (suc d) text from after g.0 k _ e (greater_goes_on d k.class s) n g.1)
by_role total R p greater_stop zero text k from after us e n s m go h = (from, at_greater text from after k e s)
by_role total R p greater_stop (suc d) text k from after us e n s m go h = absurd cc
by_role total R p opening d text k from after us e n s m go h =
    let g = go h in (g.0, at_opening d text from after g.0 k _ e s g.1)
by_role total R p closing zero text k from after us e n s m go h = absurd cc
by_role total R p closing (suc d) text k from after us e n s m go h =
    let g = go h in (g.0, at_closing d text from after g.0 k _ e s g.1)
by_role total R p short_circuit zero text k from after us e n s m go h = absurd cc
by_role total R p short_circuit (suc d) text k from after us e n s m go h =
    let g = go h in
    (g.0, at_other (suc d) text from after g.0 k _ e (short_circuit_goes_on d k.class s) n g.1)
by_role total R p stop d text k from after us e n s m go h = absurd cc
by_role total R p other d text k from after us e n s m go h =
    let g = go h in (g.0, at_other d text from after g.0 k _ e (plain_goes_on d k.class s) n g.1)
by_role total R p template_start d text k from after us e n s m go h = absurd cc
by_role total R p template_end d text k from after us e n s m go h = absurd cc

-- over one token
over_token : (total : ℕ) (R : TemplateRelation) (p : Place) (d : ℕ) (text : List ℕ) (k : Kind)
    (from after : List ℕ) (us : List Token) → raw text ≡ token k from after
    → (is_word k.class ≡ true → NoTemplate R after)
    → (reach p 0 (next_depth (role k.class) d) (map without_place us) ≡ true
    → Reached total R (next_depth (role k.class) d) after us)
    → reach p 0 d (k ∷ map without_place us) ≡ true → Reached total R d text (at total k from after ∷ us)
over_token total R p d text k from after us e n go h = by_role total R p (role k.class) d text k
    from after us e n (role_says k.class) (raw_unmarked text from after k e) go h

-- over a word with a template list
word_passed : (r : Role) → is_word_role r ≡ true → (d : ℕ) (next : ℕ → ℕ → Bool)
    → reach_role r 0 d next ≡ true → next 0 d ≡ true
word_passed name w d next h = h
word_passed keyword w d next h = absurd cc
word_passed r w d next h = absurd cc

word_counted : (r : Role) → is_word_role r ≡ true → (d : ℕ) (next : ℕ → ℕ → Bool) (count : ℕ → ℕ → ℕ)
    → reach_role r 0 d next ≡ true → ahead_role r 0 d count ≡ suc (count 0 d)
word_counted name w d next count h = refl
word_counted keyword w d next count h = absurd cc
word_counted r w d next count h = absurd cc

over_list : (total : ℕ) (R : TemplateRelation) (p : Place) (d : ℕ) (text : List ℕ) (k : Kind)
    (from after rest : List ℕ) (us vs : List Token) → raw text ≡ token k from after
    → is_word k.class ≡ true → R after us rest → Closed (map without_place us)
    → (reach p 0 d (map without_place vs) ≡ true → Reached total R d rest vs)
    → reach p 0 d (k ∷ map without_place (us ++ vs)) ≡ true
    → Reached total R d text (at total k from after ∷ (us ++ vs))
over_list total R p d text k from after rest us vs e w q c go h =
    let joined = map-append without_place us vs in
    let role_word = word_role k.class w in
    let following = word_passed (role k.class) role_word d (λ i j. reach p i j (map without_place (us ++ vs))) h in
    let g = go (sym (ap (λ (x : List Kind). reach p 0 d x) joined ∙ c.reached p 0 d (map without_place vs)) ∙ following) in
    let count : ahead 0 d (map without_place (us ++ vs)) ≡ length us + ahead 0 d (map without_place vs) =
    ap (λ (x : List Kind). ahead 0 d x) joined ∙ c.counted 0 d (map without_place vs)
    ∙ ap (λ (n : ℕ). n + ahead 0 d (map without_place vs)) (length-map us without_place) in
    let whole : first_tokens (ahead 0 d (k ∷ map without_place (us ++ vs))) (at total k from after ∷ (us ++ vs))
    ≡ at total k from after ∷ (us ++ first_tokens (ahead 0 d (map without_place vs)) vs) =
    ap (λ (n : ℕ). first_tokens n (at total k from after ∷ (us ++ vs))) (word_counted (role k.class) role_word d
    (λ i j. reach p i j (map without_place (us ++ vs))) (λ i j. ahead i j (map without_place (us ++ vs))) h)
    ∙ ap (λ (x : List Token). at total k from after ∷ x) (ap (λ (n : ℕ). first_tokens n (us ++ vs)) count
    ∙ front_over us vs (ahead 0 d (map without_place vs))) in (
      g.0,
      subst (λ (x : List Token). Inside total R d text x g.0) (sym whole)
          (at_template d text from after rest g.0 k us _ e w q g.1),
    )

-- ---- seen from within
-- the depth from the `<` on is no greater than the one that the list around it has
opening_depth : (r : Role) → r ≡ opening → (d depth : ℕ) → d ≤ depth → next_depth r d ≤ suc depth
opening_depth r e d depth le = subst (λ (q : Role). next_depth q d ≤ suc depth) (sym e) (omega arith)

one_closed : (d depth : ℕ) → d ≤ suc depth → next_depth closing d ≤ depth
one_closed zero depth le = omega arith
one_closed (suc d) depth le = omega arith

closing_depth : (r : Role) → r ≡ closing → (d depth : ℕ) → d ≤ suc depth → next_depth r d ≤ depth
closing_depth r e d depth le = subst (λ (q : Role). next_depth q d ≤ depth) (sym e) (one_closed d depth le)

other_depth : (c : ℕ) (r : Role) → Says c r → (d depth : ℕ) → goes_on depth c ≡ true → d ≤ depth
    → next_depth r d ≤ depth
other_depth c opening s d depth g le = clash _ s (no_bracket depth c g).0
other_depth c closing s d depth g le = clash _ s (no_bracket depth c g).1
other_depth c r s d depth g le = le

-- the run of a template list has a run from a `<` in it
pub reached_inside : (total : ℕ) (R : TemplateRelation) → AllClosed R
    → (depth : ℕ) (text : List ℕ) (ts : List Token) (end : List ℕ) → Inside total R depth text ts end
    → (d : ℕ) → d ≤ depth → reach inside 0 d (map without_place ts) ≡ true → Reached total R d text ts
reached_inside total R c depth text ts end (at_greater t e after k r g) zero le h =
    (end, at_greater text end after k r g)
reached_inside total R c depth text ts end (at_greater t e after k r g) (suc d) le h = absurd (omega arith)
reached_inside total R c depth text ts end (at_opening i t from after e k us r g j) d le h =
    over_token total R inside d text k from after us r (λ w. absurd (opening_word k.class g w))
    (λ n. reached_inside total R c (suc depth) after us end j (next_depth (role k.class) d)
    (opening_depth (role k.class) (opening_role k.class g) d depth le) n) h
reached_inside total R c depth text ts end (at_closing i t from after e k us r g j) d le h =
    over_token total R inside d text k from after us r (λ w. absurd (closing_word k.class g w))
    (λ n. reached_inside total R c i after us end j (next_depth (role k.class) d)
    (closing_depth (role k.class) (closing_role k.class g) d i le) n) h
reached_inside total R c depth text ts end (at_template i t from after rest e k us vs r w q j) d le h =
    over_list total R inside d text k from after rest us vs r w q (c after us rest q)
    (λ n. reached_inside total R c depth rest vs end j d le n) h
reached_inside total R c depth text ts end (at_other i t from after e k us r g n j) d le h =
    over_token total R inside d text k from after us r n
    (λ m. reached_inside total R c depth after us end j (next_depth (role k.class) d)
    (other_depth k.class (role k.class) (role_says k.class) d depth g le) m) h

-- and so have the tokens of a whole text
pub reached_outside : (total : ℕ) (text : List ℕ) (ts : List Token) (e : Ending)
    → TokensOf total text ts e → e ≡ finished → (d : ℕ)
    → reach outside 0 d (map without_place ts) ≡ true → Reached total (Template total) d text ts
reached_outside total text ts e (at_end t r) f d h = absurd cc
reached_outside total text ts e (at_fault t from after r) f d h = absurd cc
reached_outside total text ts e (before_template t from after rest k us vs g r w q j) f d h =
    over_list total (Template total) outside d text k from after rest us vs r w q
    (template_closed total after us rest q) (λ n. reached_outside total rest vs e j f d n) h
reached_outside total text ts e (before_more t from after k us g r n j) f d h =
    over_token total (Template total) outside d text k from after us r n
    (λ m. reached_outside total after us e j f (next_depth (role k.class) d) m) h
