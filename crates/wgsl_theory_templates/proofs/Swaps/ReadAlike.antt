-- What would be inside a list that begins at a `<` is read alike from there by each list around
-- it: where it is no list of expressions, none around it is.
use Rattle.std.proofs.Common.{◌≡◌, ℕ, zero, suc, ◌+◌, ◌≤◌, Bool, true, false, List, [], ◌∷◌, ◌++◌, length, inl, inr, refl, sym, ap, subst, ◌∙◌, arith}
use Rattle.std.proofs.lemmas.List.{map-append, length-map}
use Rattle.grammar.specs.Tokens.{Token, first_tokens}
use Rattle.grammar.specs.Grammar.{Mode.checking, Derives, is_among}
use Rattle.grammar.proofs.Reading.Sets.{clash}
use Rattle.wgsl_model.specs.Tokens.Kind.{Kind}
use Rattle.wgsl_model.specs.Tokens.Raw.{token}
use Rattle.wgsl_model.specs.Grammar.Symbols.{Symbol.expressions}
use Rattle.wgsl_model.specs.Grammar.Written.{written}
use Rattle.wgsl_model.specs.Tokens.Templates.{is_word, begins_with_greater, goes_on, TemplateRelation, NoTemplate, Inside, at_greater, at_opening, at_closing, at_template, at_other, Template}
use Rattle.wgsl_theory_grammar.proofs.Tokens.Classes.{opening_greater, closing_greater, greater_short_circuit, greater_word, word_goes_on, no_bracket, no_end, goes_on_deeper}
use Rattle.wgsl_theory_grammar.proofs.Tokens.Inside.{at, Step, greater_step, opening_step, closing_step, template_step, other_step, After, after_list, after_none, step_at, from_opening, from_closing, from_other}
use Rattle.wgsl_theory_grammar.proofs.Tokens.Unique.{IsUnique, template_unique}
use Rattle.wgsl_theory_grammar.proofs.Tokens.Decided.{IsList, list_decided}
use Rattle.wgsl_theory_reread.specs.CanonicalUnits.{without_place}
use Rattle.wgsl_theory_templates.proofs.Reaching.Reach.{Role, Role.name, Role.keyword, Role.greater, Role.greater_stop, Role.opening, Role.closing, Role.short_circuit, Role.stop, Role.other, Role.template_start, Role.template_end, role, inside, reach_role, reach, ahead_role, ahead}
use Rattle.wgsl_theory_templates.proofs.Reaching.Moves.{kinds, stretch, Moves, flat_moves, inner_moves, opening_moves, closing_moves}
use Rattle.wgsl_theory_templates.proofs.Reaching.ClearRules.{list_clear}
use Rattle.wgsl_theory_templates.proofs.Lexed.Shapes.{is_word_role}
use Rattle.wgsl_theory_templates.proofs.Lexed.RoleClasses.{Says, role_says, is_mark_role, opening_role, closing_role, word_role}
use Rattle.wgsl_theory_templates.proofs.Lexed.RawClasses.{raw_unmarked}
use Rattle.wgsl_theory_templates.proofs.Lexed.PassedOver.{Closed, front_over}
use Rattle.wgsl_theory_templates.proofs.Lexed.ReachedRuns.{AllClosed, template_closed}
use Rattle.wgsl_theory_templates.proofs.Lexed.NoStops.{is_stop_role, NoStop, no_stops}
use Rattle.wgsl_theory_templates.specs.Attempts.{less_signs}
use Rattle.wgsl_theory_templates.proofs.Swaps.InsideNested.{all_nested, clear_at}

-- ---- tokens and their roles
-- some tokens are before the one that is reached from a number of brackets deep
abbrev Found : ℕ → List Token → List Token → Type 0
Found j ts us = (reach inside 0 j (kinds ts) ≡ true) × (stretch 0 j ts ≡ us)

one_more : (t : Token) (j i : ℕ) (ts us : List Token) → Moves (role t.class) 0 j 0 i → Found i ts us
    → Found j (t ∷ ts) (t ∷ us)
one_more t j i ts us m f = (
  m.reached (λ k d. reach inside k d (kinds ts)) ∙ f.0,
  ap (λ (n : ℕ). first_tokens n (t ∷ ts)) (m.counted (λ k d. ahead k d (kinds ts)))
      ∙ ap (λ (x : List Token). t ∷ x) f.1,
)

-- a token that begins with `>`
greater_found : (r : Role) (c : ℕ) (t : Token) (ts : List Token) → Says c r → is_mark_role r ≡ false
    → begins_with_greater c ≡ true
    → (reach_role r 0 0 (λ k d. reach inside k d (kinds ts)) ≡ true)
    × (first_tokens (ahead_role r 0 0 (λ k d. ahead k d (kinds ts))) (t ∷ ts) ≡ [])
greater_found name c t ts s m g = absurd (greater_word c g s)
greater_found keyword c t ts s m g = absurd (greater_word c g s)
greater_found greater c t ts s m g = (refl, refl)
greater_found greater_stop c t ts s m g = (refl, refl)
greater_found opening c t ts s m g = absurd (opening_greater c s g)
greater_found closing c t ts s m g = absurd (closing_greater c s g)
greater_found short_circuit c t ts s m g = absurd (greater_short_circuit c g s)
greater_found stop c t ts s m g = clash _ g s.3
greater_found other c t ts s m g = clash _ g s.3
greater_found template_start c t ts s m g = absurd cc
greater_found template_end c t ts s m g = absurd cc

-- what a list goes on after leaves the nesting as it is
other_moves : (r : Role) (c j : ℕ) → Says c r → is_mark_role r ≡ false → is_stop_role r ≡ false
    → goes_on j c ≡ true → Moves r 0 j 0 j
other_moves name c j s m n g = flat_moves name 0 j refl
other_moves keyword c j s m n g = absurd cc
other_moves greater c zero s m n g = clash _ s (no_end c g).0
other_moves greater c (suc j) s m n g = inner_moves greater 0 (suc j) refl refl
other_moves greater_stop c j s m n g = absurd cc
other_moves opening c j s m n g = clash _ s (no_bracket j c g).0
other_moves closing c j s m n g = clash _ s (no_bracket j c g).1
other_moves short_circuit c zero s m n g = clash _ s (no_end c g).1
other_moves short_circuit c (suc j) s m n g = inner_moves short_circuit 0 (suc j) refl refl
other_moves stop c j s m n g = absurd cc
other_moves other c j s m n g = flat_moves other 0 j refl
other_moves template_start c j s m n g = absurd cc
other_moves template_end c j s m n g = absurd cc

-- and deeper, it goes on too
pub deeper_goes_on : (j d c : ℕ) → j ≤ d → goes_on j c ≡ true → goes_on d c ≡ true
deeper_goes_on zero zero c le g = g
deeper_goes_on (suc j) zero c le g = absurd (omega arith)
deeper_goes_on j (suc d) c le g = let n = no_bracket j c g in goes_on_deeper d c n.0 n.1

no_stop_after : (us ts : List Token) → NoStop (kinds (us ++ ts)) → NoStop (kinds ts)
no_stop_after [] ts n = n
no_stop_after (u ∷ us) ts n = no_stop_after us ts n.1

-- ---- what is read from a `<` on
-- by a list that would begin there, and by one around it, within whose brackets the `<` may be
abbrev Alike : (total : ℕ) → TemplateRelation → ℕ → List ℕ → List Token → Type 0
Alike total R j text us = (d : ℕ) → j ≤ d → (ts : List Token) (end : List ℕ)
    → Inside total R d text ts end → NoStop (kinds ts) → Found j ts us

front_found : (total : ℕ) (R : TemplateRelation) (d : ℕ) (k : Kind) (from after : List ℕ) (ts : List Token)
    (end : List ℕ) → is_mark_role (role k.class) ≡ false → begins_with_greater k.class ≡ true
    → Step total R d k from after ts end → Found 0 ts []
front_found total R d k from after ts end m g (greater_step z b e f) =
    subst (λ (x : List Token). Found 0 x []) (sym e) (refl, refl)
front_found total R d k from after ts end m g (opening_step o us e h) = absurd (opening_greater k.class o g)
front_found total R d k from after ts end m g (closing_step l i z us e h) = absurd (closing_greater k.class l g)
front_found total R d k from after ts end m g (template_step w us vs rest q e h) = absurd (greater_word k.class g w)
front_found total R d k from after ts end m g (other_step o n us e h) =
    subst (λ (x : List Token). Found 0 x []) (sym e)
    (greater_found (role k.class) k.class (at total k from after) us (role_says k.class) m g)

-- a template list, and the word before it
over_list : (j : ℕ) (us ts vs : List Token) → Closed (kinds us) → Found j ts vs → Found j (us ++ ts) (us ++ vs)
over_list j us ts vs c f =
    let joined : kinds (us ++ ts) ≡ kinds us ++ kinds ts = map-append without_place us ts in
    let count : ahead 0 j (kinds (us ++ ts)) ≡ length us + ahead 0 j (kinds ts) =
    ap (λ (x : List Kind). ahead 0 j x) joined ∙ c.counted 0 j (kinds ts)
    ∙ ap (λ (n : ℕ). n + ahead 0 j (kinds ts)) (length-map us without_place) in (
      ap (λ (x : List Kind). reach inside 0 j x) joined ∙ c.reached inside 0 j (kinds ts) ∙ f.0,
      ap (λ (n : ℕ). first_tokens n (us ++ ts)) count ∙ front_over us ts (ahead 0 j (kinds ts))
          ∙ ap (λ (x : List Token). us ++ x) f.1,
    )

word_moves : (r : Role) (j : ℕ) → is_word_role r ≡ true → is_stop_role r ≡ false → Moves r 0 j 0 j
word_moves name j w n = flat_moves name 0 j refl
word_moves keyword j w n = absurd cc
word_moves r j w n = absurd cc

list_found : (total : ℕ) (R : TemplateRelation) → IsUnique R → AllClosed R
    → (j d : ℕ) (k : Kind) (from after rest : List ℕ) (us vs ts : List Token) (end : List ℕ)
    → is_word k.class ≡ true → is_stop_role (role k.class) ≡ false
    → R after us rest
    → ((ws : List Token) → Inside total R d rest ws end → NoStop (kinds ws) → Found j ws vs)
    → NoStop (kinds ts) → After total R (is_word k.class) d after ts end
    → Found j (at total k from after ∷ ts) (at total k from after ∷ (us ++ vs))
list_found total R u c j d k from after rest us vs ts end w m q again n (after_list w' us' ws rest' q' e h) =
    let same = u after us' us rest' rest q' q in
    let all : ts ≡ us ++ ws = e ∙ ap (λ (x : List Token). x ++ ws) same.0 in
    let f = again ws (subst (λ (x : List ℕ). Inside total R d x ws end) same.1 h)
    (no_stop_after us ws (subst (λ (x : List Token). NoStop (kinds x)) all n)) in
    one_more (at total k from after) j j ts (us ++ vs) (word_moves (role k.class) j (word_role k.class w) m)
    (subst (λ (x : List Token). Found j x (us ++ vs)) (sym all) (over_list j us ws vs (c after us rest q) f))
list_found total R u c j d k from after rest us vs ts end w m q again n (after_none b h) = absurd (b w us rest q)

-- where no template list is after a token
pub no_list_after : (total : ℕ) (R : TemplateRelation) (word : Bool) (d : ℕ) (text : List ℕ)
    (ts : List Token) (end : List ℕ) → (word ≡ true → NoTemplate R text)
    → After total R word d text ts end → Inside total R d text ts end
no_list_after total R word d text ts end n (after_list w us vs rest q e h) = absurd (n w us rest q)
no_list_after total R word d text ts end n (after_none m h) = h

-- the token at the front is the same, and what is after it
after_front : (t : Token) (j i : ℕ) (ts us vs : List Token) → ts ≡ t ∷ us → NoStop (kinds ts)
    → (is_stop_role (role t.class) ≡ false → Moves (role t.class) 0 j 0 i)
    → (NoStop (kinds us) → Found i us vs) → Found j ts (t ∷ vs)
after_front t j i ts us vs e n m f =
    let n' : NoStop (kinds (t ∷ us)) = subst (λ (x : List Token). NoStop (kinds x)) e n in
    subst (λ (x : List Token). Found j x (t ∷ vs)) (sym e) (one_more t j i us vs (m n'.0) (f n'.1))

alike : (total : ℕ) (R : TemplateRelation) → IsUnique R → AllClosed R
    → (j : ℕ) (text : List ℕ) (us : List Token) (e : List ℕ) → Inside total R j text us e
    → Alike total R j text us
alike total R u c j text us e (at_greater t e' after k r g) d le ts end h n =
    front_found total R d k e' after ts end (raw_unmarked text e' after k r) g
    (step_at total R d text ts end (token k e' after) r h)
alike total R u c j text us e (at_opening i t from after e' k vs r g h) d le ts end h' n =
    let s = from_opening total R d k from after ts end g (step_at total R d text ts end (token k from after) r h') in
    let m : Moves (role k.class) 0 i 0 (suc i) = subst (λ (x : Role). Moves x 0 i 0 (suc i))
    (sym (opening_role k.class g)) (opening_moves 0 i) in
    after_front (at total k from after) i (suc i) ts s.0 vs s.1 n (λ o. m)
    (λ o. alike total R u c (suc i) after vs e h (suc d) (omega arith) s.0 end s.2 o)
alike total R u c j text us e (at_closing i t from after e' k vs r g h) d le ts end h' n =
    let s = from_closing total R d k from after ts end g (step_at total R d text ts end (token k from after) r h') in
    let m : Moves (role k.class) 0 (suc i) 0 i = subst (λ (x : Role). Moves x 0 (suc i) 0 i)
    (sym (closing_role k.class g)) (closing_moves 0 i) in
    after_front (at total k from after) (suc i) i ts s.2 vs s.3 n (λ o. m)
    (λ o. alike total R u c i after vs e h s.0 (omega (arith, s.1, le)) s.2 end s.4 o)
alike total R u c j text us e (at_template i t from after rest e' k vs ws r w q h) d le ts end h' n =
    let s = from_other total R d k from after ts end (word_goes_on d k.class w)
    (step_at total R d text ts end (token k from after) r h') in
    let n' : NoStop (kinds (at total k from after ∷ s.0)) = subst (λ (x : List Token). NoStop (kinds x)) s.1 n in
    subst (λ (x : List Token). Found j x (at total k from after ∷ (vs ++ ws))) (sym s.1)
    (list_found total R u c j d k from after rest vs ws s.0 end w n'.0 q
    (λ xs i' o. alike total R u c j rest ws e h d le xs end i' o) n'.1 s.2)
alike total R u c j text us e (at_other i t from after e' k vs r g b h) d le ts end h' n =
    let s = from_other total R d k from after ts end (deeper_goes_on j d k.class le g)
    (step_at total R d text ts end (token k from after) r h') in
    after_front (at total k from after) j j ts s.0 vs s.1 n
    (λ o. other_moves (role k.class) k.class j (role_says k.class) (raw_unmarked text from after k r) o g)
    (λ o. alike total R u c j after vs e h d le s.0 end
    (no_list_after total R (is_word k.class) d after s.0 end b s.2) o)

-- ---- lists
-- what would be inside a list that begins at a `<` is a list of expressions, if a list around an
-- operator that ends with this `<` is one
pub list_within : (total : ℕ) (before : List Token) (less : Token) (ts us : List Token) (depth : ℕ)
    (after end e : List ℕ) → IsList (before ++ (less ∷ ts)) → is_among less.class less_signs ≡ true
    → Inside total (Template total) depth after ts end → Inside total (Template total) 0 after us e
    → IsList us
list_within total before less ts us depth after end e (v, d) l h i =
    elim (list_decided us) [ inl y ↦ y | inr never ↦ absurd (refuse never) ]
  where
    found : Found 0 ts us
    found =
        alike total (Template total) (template_unique total)
        (template_closed total) 0 after us e i depth (omega arith) ts end h
        (no_stop_after before (less ∷ ts) (no_stops v (before ++ (less ∷ ts)) d)).1

    refuse : (IsList us → ⊥) → ⊥
    refuse never =
        clash _ found.0 (clear_at inside (before ++ (less ∷ ts)) [] (list_clear v
        (before ++ (less ∷ ts)) d) refl before less ts refl l (all_nested total depth after ts end h)
        (λ r w g. never (w, subst (λ (x : List Token). Derives checking written expressions w x) found.1 g)))
