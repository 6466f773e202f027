-- What is left of a text inside template lists: one list of tokens, and of a source its token list.
use Rattle.std.proofs.Common.{◌≡◌, ◌⊎◌, ℕ, zero, suc, ◌<◌, ◌≤◌, Bool, true, false, eqb, eqb-true, List, [], ◌∷◌, ◌++◌, drop, length, refl, sym, ap, subst, ◌∙◌, append_assoc, inl, inr, arith, length-append}
use Rattle.grammar.specs.Tokens.{Token}
use Rattle.grammar.specs.Endings.{Ending, Ending.finished}
use Rattle.grammar.proofs.Reading.Sets.{cases, clash}
use Rattle.wgsl_model.specs.Tokens.ClassTable.{SymLessThan, TemplateArgsStart, TemplateArgsEnd}
use Rattle.wgsl_model.specs.Tokens.Kind.{Kind, plain}
use Rattle.wgsl_model.specs.Tokens.Raw.{Raw, none_left, invalid, token, raw}
use Rattle.wgsl_model.specs.Tokens.Templates.{is_word, NoTemplate, Inside, at_greater, at_opening, at_closing, at_template, at_other, Template}
use Rattle.wgsl_model.specs.Tokens.TokenList.{TokensOf, at_end, at_fault, before_template, before_more, place, width}
use Rattle.wgsl_theory_grammar.proofs.Tokens.Cuts.{EndsWith, EndsPast, cut_at, joined, ends_length, shorter, after_token, after_first}
use Rattle.wgsl_theory_grammar.proofs.Tokens.Widths.{within, past, past_first}
use Rattle.wgsl_theory_grammar.proofs.Tokens.Classes.{opening_word, closing_word}
use Rattle.wgsl_theory_grammar.proofs.Tokens.Bounds.{inside_leaves, template_leaves}
use Rattle.wgsl_theory_grammar.proofs.Tokens.Inside.{at}
use Rattle.wgsl_theory_grammar.proofs.Tokens.Unique.{inside_unique, template_unique}
use Rattle.wgsl_theory_grammar.proofs.Tokens.Decided.{Decided, Begins, template_decided}
use Rattle.wgsl_theory_grammar.proofs.Tokens.Lists.{fault_at, tokens_exist}
use Rattle.wgsl_theory_templates.specs.Attempts.{EndsAt}
use Rattle.wgsl_theory_templates.specs.Rest.Left.{IsBeforeEnd, LeftOf, left_nothing, left_fault, left_end, left_start, left_token}
use Rattle.wgsl_theory_templates.proofs.Swaps.Attempts.{list_front, front_list, none_left_begins}

-- the `<` and the `>` of a list
abbrev pub start_at : ℕ → List ℕ → List ℕ → Token
start_at total from after = at total (plain TemplateArgsStart) from after

abbrev pub end_at : ℕ → List ℕ → Token
end_at total end = at total (plain TemplateArgsEnd) end (drop 1 end)

-- the cases, of a text whose first token is known
data LeftStep (total : ℕ) (ends : List ℕ) (word : Bool) (text : List ℕ) (kind : Kind)
    (from after : List ℕ) (ts : List Token) (e : Ending) : Type 0 where
  end_step : (outer : List ℕ) → ends ≡ place total from ∷ outer → (us : List Token)
      → ts ≡ end_at total from ∷ us → LeftOf total outer false (drop 1 from) us e
      → LeftStep total ends word text kind from after ts e
  start_step : IsBeforeEnd total ends from → word ≡ true → kind.class ≡ SymLessThan → (end : List ℕ)
      → EndsAt total after end → (us : List Token) → ts ≡ start_at total from after ∷ us
      → LeftOf total (place total end ∷ ends) false after us e
      → LeftStep total ends word text kind from after ts e
  token_step : IsBeforeEnd total ends from → (word ≡ true → NoTemplate (Template total) text)
      → (us : List Token) → ts ≡ at total kind from after ∷ us
      → LeftOf total ends (is_word kind.class) after us e
      → LeftStep total ends word text kind from after ts e

abbrev LeftSays : ℕ → List ℕ → Bool → List ℕ → List Token → Ending → Raw → Type 0
LeftSays total ends word text ts e none_left = (ts ≡ []) × (e ≡ finished)
LeftSays total ends word text ts e (invalid from after) = (ts ≡ []) × (e ≡ fault_at total from after)
LeftSays total ends word text ts e (token kind from after) = LeftStep total ends word text kind from after ts e

left_raw : (total : ℕ) (ends : List ℕ) (word : Bool) (text : List ℕ) (ts : List Token) (e : Ending)
    → LeftOf total ends word text ts e → LeftSays total ends word text ts e (raw text)
left_raw total ends word text ts e (left_nothing x w t r) =
    subst (LeftSays total ends word text [] finished) (sym r) (refl, refl)
left_raw total ends word text ts e (left_fault x w t from after r) =
    subst (LeftSays total ends word text [] (fault_at total from after)) (sym r) (refl, refl)
left_raw total ends word text ts e (left_end x w t from after kind us f r h) =
    subst (LeftSays total (place total from ∷ x) word text (end_at total from ∷ us) e) (sym r)
    (end_step x refl us refl h)
left_raw total ends word text ts e (left_start x t from after end kind us f r b c k h) =
    subst (LeftSays total ends true text (start_at total from after ∷ us) e) (sym r)
    (start_step b refl c end k us refl h)
left_raw total ends word text ts e (left_token x w t from after kind us f r b n h) =
    subst (LeftSays total ends word text (at total kind from after ∷ us) e) (sym r) (token_step b n us refl h)

left_says : (total : ℕ) (ends : List ℕ) (word : Bool) (text : List ℕ) (ts : List Token) (e : Ending) (r : Raw)
    → raw text ≡ r → LeftOf total ends word text ts e → LeftSays total ends word text ts e r
left_says total ends word text ts e r is h = subst (LeftSays total ends word text ts e) is
    (left_raw total ends word text ts e h)

-- ---- one list
then_same : (t : Token) (ts us vs : List Token) (e f : Ending) → us ≡ t ∷ vs → (ts ≡ vs) × (e ≡ f)
    → (t ∷ ts ≡ us) × (e ≡ f)
then_same t ts us vs e f g h = (ap (λ l. t ∷ l) h.0 ∙ sym g, h.1)

not_at_end : {A : Type 0} (total : ℕ) (ends outer from : List ℕ) → IsBeforeEnd total ends from
    → ends ≡ place total from ∷ outer → A
not_at_end total ends outer from b e = absurd (subst (λ x. IsBeforeEnd total x from) e b refl)

-- at the end of the innermost list
end_same : (total : ℕ) (ends : List ℕ) (word : Bool) (text from after : List ℕ) (kind : Kind)
    (ts us : List Token) (e f : Ending)
    → ((xs : List Token) → LeftOf total ends false (drop 1 from) xs f → (ts ≡ xs) × (e ≡ f))
    → LeftStep total (place total from ∷ ends) word text kind from after us f
    → (end_at total from ∷ ts ≡ us) × (e ≡ f)
end_same total ends word text from after kind ts us e f again (end_step outer o xs s h) =
    let same : ends ≡ outer = cc in then_same (end_at total from) ts us xs e f s
    (again xs (subst (λ x. LeftOf total x false (drop 1 from) xs f) (sym same) h))
end_same total ends word text from after kind ts us e f again (start_step b w c end k xs s h) = absurd (b refl)
end_same total ends word text from after kind ts us e f again (token_step b n xs s h) = absurd (b refl)

-- at a `<` that begins a list
start_same : (total : ℕ) (ends : List ℕ) (word : Bool) (text from after end : List ℕ) (kind : Kind)
    (ts us : List Token) (e f : Ending) → raw text ≡ token kind from after
    → IsBeforeEnd total ends from → word ≡ true → kind.class ≡ SymLessThan → EndsAt total after end
    → ((xs : List Token) → LeftOf total (place total end ∷ ends) false after xs f → (ts ≡ xs) × (e ≡ f))
    → LeftStep total ends word text kind from after us f → (start_at total from after ∷ ts ≡ us) × (e ≡ f)
start_same total ends word text from after end kind ts us e f r b w c k again (end_step outer o xs s h) =
    not_at_end total ends outer from b o
start_same total ends word text from after end kind ts us e f r b w c k again (start_step b' w' c' end' k' xs s h) =
    let same = inside_unique total (Template total) (template_unique total) 0 after k.0 k'.0 end end' k.1 k'.1 in
    then_same (start_at total from after) ts us xs e f s
    (again xs (subst (λ x. LeftOf total (place total x ∷ ends) false after xs f) (sym same.1) h))
start_same total ends word text from after end kind ts us e f r b w c k again (token_step b' n xs s h) =
    absurd (n w _ _ (front_list total text from after end kind r c k))

-- at any other token
token_same : (total : ℕ) (ends : List ℕ) (word : Bool) (text from after : List ℕ) (kind : Kind)
    (ts us : List Token) (e f : Ending) → raw text ≡ token kind from after
    → IsBeforeEnd total ends from → (word ≡ true → NoTemplate (Template total) text)
    → ((xs : List Token) → LeftOf total ends (is_word kind.class) after xs f → (ts ≡ xs) × (e ≡ f))
    → LeftStep total ends word text kind from after us f → (at total kind from after ∷ ts ≡ us) × (e ≡ f)
token_same total ends word text from after kind ts us e f r b n again (end_step outer o xs s h) =
    not_at_end total ends outer from b o
token_same total ends word text from after kind ts us e f r b n again (start_step b' w c end k xs s h) =
    absurd (n w _ _ (front_list total text from after end kind r c k))
token_same total ends word text from after kind ts us e f r b n again (token_step b' m xs s h) =
    then_same (at total kind from after) ts us xs e f s (again xs h)

pub left_unique : (total : ℕ) (ends : List ℕ) (word : Bool) (text : List ℕ) (ts us : List Token) (e f : Ending)
    → LeftOf total ends word text ts e → LeftOf total ends word text us f → (ts ≡ us) × (e ≡ f)
left_unique total ends word text ts us e f (left_nothing x w t r) k =
    let b = left_says total ends word text us f none_left r k in (sym b.0, sym b.1)
left_unique total ends word text ts us e f (left_fault x w t from after r) k =
    let b = left_says total ends word text us f (invalid from after) r k in (sym b.0, sym b.1)
left_unique total ends word text ts us e f (left_end x w t from after kind vs g r h) k =
    end_same total x word text from after kind vs us e f
    (λ xs j. left_unique total x false (drop 1 from) vs xs e f h j)
    (left_says total (place total from ∷ x) word text us f (token kind from after) r k)
left_unique total ends word text ts us e f (left_start x t from after end kind vs g r b c m h) k =
    start_same total ends true text from after end kind vs us e f r b refl c m
    (λ xs j. left_unique total (place total end ∷ ends) false after vs xs e f h j)
    (left_says total ends true text us f (token kind from after) r k)
left_unique total ends word text ts us e f (left_token x w t from after kind vs g r b n h) k =
    token_same total ends word text from after kind vs us e f r b n
    (λ xs j. left_unique total ends (is_word kind.class) after vs xs e f h j)
    (left_says total ends word text us f (token kind from after) r k)

-- ---- some list
abbrev pub HasLeft : ℕ → List ℕ → Bool → List ℕ → Type 0
HasLeft total ends word text = (ts : List Token) × (e : Ending) × LeftOf total ends word text ts e

at_end_or_before : (total : ℕ) (ends from : List ℕ)
    → ((outer : List ℕ) × (ends ≡ place total from ∷ outer)) ⊎ IsBeforeEnd total ends from
at_end_or_before total [] from = inr tt
at_end_or_before total (end ∷ ends) from = elim (cases (eqb (place total from) end)) [
  | inl q ↦ let same : place total from ≡ end = eqb-true (place total from) end q in
      inl (ends, ap (λ x. x ∷ ends) (sym same))
  | inr q ↦ inr (λ same. clash _ (subst (λ x. eqb (place total from) x ≡ true) same (itself (place total from))) q)
]
  where
    itself : (n : ℕ) → eqb n n ≡ true
    itself n = grind arith

left_after : (total : ℕ) (ends : List ℕ) (word : Bool) (text from after : List ℕ) (kind : Kind)
    → raw text ≡ token kind from after → IsBeforeEnd total ends from
    → Decided (Begins (Template total) text)
    → ((ends' : List ℕ) (word' : Bool) (rest : List ℕ) → length rest < length text → HasLeft total ends' word' rest)
    → HasLeft total ends word text
left_after total ends false text from after kind e b d more =
    let m = more ends (is_word kind.class) after (shorter text from after kind e) in
    (at total kind from after ∷ m.0, m.1, left_token ends false text from after kind m.0 m.1 e b (λ w. absurd cc) m.2)
left_after total ends true text from after kind e b (inr none) more =
    let m = more ends (is_word kind.class) after (shorter text from after kind e) in (
      at total kind from after ∷ m.0,
      m.1,
      left_token ends true text from after kind m.0 m.1 e b (λ w us rest q. none (us, rest, q)) m.2,
    )
left_after total ends true text from after kind e b (inl (us, rest, q)) more =
    let k = list_front total text from after kind us rest e q in
    let m = more (place total k.1 ∷ ends) false after (shorter text from after kind e) in
    (start_at total from after ∷ m.0, m.1, left_start ends text from after k.1 kind m.0 m.1 e b k.0 k.2 m.2)

left_from : (total : ℕ) (ends : List ℕ) (word : Bool) (text : List ℕ) (r : Raw) → raw text ≡ r
    → ((ends' : List ℕ) (word' : Bool) (rest : List ℕ) → length rest < length text → HasLeft total ends' word' rest)
    → HasLeft total ends word text
left_from total ends word text none_left e more = ([], finished, left_nothing ends word text e)
left_from total ends word text (invalid from after) e more =
    ([], fault_at total from after, left_fault ends word text from after e)
left_from total ends word text (token kind from after) e more = elim (at_end_or_before total ends from) [
  | inl (outer, same) ↦
      let c = cut_at text from after kind e in
      let p = past_first from after c.1 in
      let m = more outer false (drop 1 from)
      (omega (arith, ends_length text from c.0, ap length p.2, length-append (p.0 ∷ p.1) (drop 1 from))) in (
        end_at total from ∷ m.0,
        m.1,
        subst (λ x. LeftOf total x word text (end_at total from ∷ m.0) m.1) (sym same)
            (left_end outer word text from after kind m.0 m.1 e m.2),
      )
  | inr b ↦ left_after total ends word text from after kind e b (template_decided total text) more
]

left_below : (n total : ℕ) (ends : List ℕ) (word : Bool) (text : List ℕ) → length text < n
    → HasLeft total ends word text
left_below zero total ends word text lt = absurd (omega arith)
left_below (suc n) total ends word text lt = left_from total ends word text (raw text) refl
    (λ x w rest less. left_below n total x w rest (omega arith))

pub left_exists : (total : ℕ) (ends : List ℕ) (word : Bool) (text : List ℕ) → HasLeft total ends word text
left_exists total ends word text = left_below (suc (length text)) total ends word text (omega arith)

-- ---- of a source, its token list
-- after a word that no list follows, the same is left
unflagged : (total : ℕ) (ends : List ℕ) (word flag : Bool) (text : List ℕ) (ts : List Token) (e : Ending)
    → flag ≡ false → (word ≡ true → NoTemplate (Template total) text)
    → LeftOf total ends flag text ts e → LeftOf total ends word text ts e
unflagged total ends word flag text ts e f n (left_nothing x w t r) = left_nothing ends word text r
unflagged total ends word flag text ts e f n (left_fault x w t from after r) = left_fault ends word text from after r
unflagged total ends word flag text ts e f n (left_end x w t from after kind us g r h) =
    left_end x word text from after kind us e r h
unflagged total ends word flag text ts e f n (left_start x t from after end kind us g r b c k h) = absurd cc
unflagged total ends word flag text ts e f n (left_token x w t from after kind us g r b m h) =
    left_token ends word text from after kind us e r b n h

-- before a list's end no token is at it
before_end : (total : ℕ) (ends from after end : List ℕ) → width from ≤ total → EndsPast from after
    → EndsWith after end → IsBeforeEnd total (place total end ∷ ends) from
before_end total ends from after end fits p w same = omega (arith, past from after p, within after end w, same)

-- the tokens of a list and what is left after it
abbrev Streams : ℕ → ℕ → Type 0
Streams total k = (text : List ℕ) (ts : List Token) (rest ends : List ℕ) (us : List Token) (e : Ending)
    → length text < k → width text ≤ total → Template total text ts rest
    → ((kind : Kind) (from after : List ℕ) → raw text ≡ token kind from after → IsBeforeEnd total ends from)
    → LeftOf total ends false rest us e → LeftOf total ends true text (ts ++ us) e

narrower : (total : ℕ) (text from after : List ℕ) (kind : Kind) → raw text ≡ token kind from after
    → width text ≤ total → width after ≤ total
narrower total text from after kind e fits = omega (arith, within text after (after_token text from after kind e))

-- one token more before the end
token_more : (total : ℕ) (ends : List ℕ) (text from after end : List ℕ) (kind : Kind) (ts : List Token)
    (e : Ending) → raw text ≡ token kind from after → width text ≤ total → EndsWith after end
    → LeftOf total (place total end ∷ ends) (is_word kind.class) after ts e
    → LeftOf total (place total end ∷ ends) false text (at total kind from after ∷ ts) e
token_more total ends text from after end kind ts e r fits w h =
    let c = cut_at text from after kind r in
    left_token (place total end ∷ ends) false text from after kind ts e r
    (before_end total ends from after end (omega (arith, within text from c.0)) c.1 w) (λ x. absurd cc) h

stream_inside : (total k : ℕ) → Streams total k
    → (depth : ℕ) (text : List ℕ) (vs : List Token) (end ends : List ℕ) (us : List Token) (e : Ending)
    → length text ≤ k → width text ≤ total → Inside total (Template total) depth text vs end
    → LeftOf total ends false (drop 1 end) us e
    → LeftOf total (place total end ∷ ends) false text (vs ++ (end_at total end ∷ us)) e
stream_inside total k H depth text vs end ends us e le fits (at_greater t f after kind r g) left =
    left_end ends false text end after kind us e r left
stream_inside total k H depth text vs end ends us e le fits (at_opening d t from after f kind ts r g h) left =
    token_more total ends text from after end kind _ e r fits
    (inside_leaves total (Template total) (template_leaves total) (suc depth) after ts end h)
    (unflagged total _ (is_word kind.class) false after _ e refl (λ w. absurd (opening_word kind.class g w))
    (stream_inside total k H (suc depth) after ts end ends us e
    (omega (arith, shorter text from after kind r)) (narrower total text from after kind r fits) h left))
stream_inside total k H depth text vs end ends us e le fits (at_closing d t from after f kind ts r g h) left =
    token_more total ends text from after end kind _ e r fits
    (inside_leaves total (Template total) (template_leaves total) d after ts end h)
    (unflagged total _ (is_word kind.class) false after _ e refl (λ w. absurd (closing_word kind.class g w))
    (stream_inside total k H d after ts end ends us e (omega (arith, shorter text from after kind r))
    (narrower total text from after kind r fits) h left))
stream_inside total k H depth text vs end ends us e le fits
    (at_template d t from after rest f kind ws ts r w q h) left =
    let less = shorter text from after kind r in
    let fit = narrower total text from after kind r fits in
    let b = template_leaves total after ws rest q in
    let i = inside_leaves total (Template total) (template_leaves total) depth rest ts end h in
    let inner = stream_inside total k H depth rest ts end ends us e
    (omega (arith, less, ends_length after rest b)) (omega (arith, fit, within after rest b)) h left in
    let whole = H after ws rest (place total end ∷ ends) (ts ++ (end_at total end ∷ us)) e (omega (arith, less)) fit q
    (λ kind' from' after' r'. let c = cut_at after from' after' kind' r' in
    before_end total ends from' after' end (omega (arith, fit, within after from' c.0)) c.1
    (list_after_first after from' after' kind' ws rest end r' q i)) inner in
    token_more total ends text from after end kind _ e r fits (joined after rest end b i)
    (subst (λ x. LeftOf total (place total end ∷ ends) x after ((ws ++ ts) ++ (end_at total end ∷ us)) e) (sym w)
    (subst (λ (x : List Token). LeftOf total (place total end ∷ ends) true after x e)
    (sym (append_assoc ws ts (end_at total end ∷ us))) whole))
  where
    list_after_first : (text from after : List ℕ) (kind : Kind) (ts : List Token) (rest end : List ℕ)
        → raw text ≡ token kind from after → Template total text ts rest → EndsWith rest end
        → EndsWith after end
    list_after_first text from after kind ts rest end r q i =
        let k = list_front total text from after kind ts rest r q in
        let j = inside_leaves total (Template total) (template_leaves total) 0 after k.2.0 k.1 k.2.1 in
        joined after k.1 end j (joined k.1 (drop 1 k.1) end (after_first k.1) (subst (λ x. EndsWith x end) k.4 i))
stream_inside total k H depth text vs end ends us e le fits (at_other d t from after f kind ts r g n h) left =
    token_more total ends text from after end kind _ e r fits
    (inside_leaves total (Template total) (template_leaves total) depth after ts end h)
    (unflagged total _ (is_word kind.class) false after _ e refl n
    (stream_inside total k H depth after ts end ends us e (omega (arith, shorter text from after kind r))
    (narrower total text from after kind r fits) h left))

enclosed_stream : (total k : ℕ) → Streams total k
    → (text : List ℕ) (ts : List Token) (rest ends : List ℕ) (us : List Token) (e : Ending)
    → length text < suc k → width text ≤ total → Template total text ts rest
    → ((kind : Kind) (from after : List ℕ) → raw text ≡ token kind from after → IsBeforeEnd total ends from)
    → LeftOf total ends false rest us e → (r : Raw) → raw text ≡ r
    → LeftOf total ends true text (ts ++ us) e
enclosed_stream total k H text ts rest ends us e lt fits q b left none_left x =
    absurd (none_left_begins total text none_left x (λ kind from after y. cc) ts rest q)
enclosed_stream total k H text ts rest ends us e lt fits q b left (invalid from after) x =
    absurd (none_left_begins total text (invalid from after) x (λ kind f a y. cc) ts rest q)
enclosed_stream total k H text ts rest ends us e lt fits q b left (token kind from after) x =
    let f = list_front total text from after kind ts rest x q in
    let inner = stream_inside total k H 0 after f.2.0 f.1 ends us e
    (omega (arith, shorter text from after kind x)) (narrower total text from after kind x fits) f.2.1
    (subst (λ y. LeftOf total ends false y us e) f.4 left) in
    subst (λ (y : List Token). LeftOf total ends true text (y ++ us) e) (sym f.3)
    (subst (λ (y : List Token). LeftOf total ends true text (start_at total from after ∷ y) e)
    (sym (append_assoc f.2.0 (end_at total f.1 ∷ []) us))
    (left_start ends text from after f.1 kind _ e x (b kind from after x) f.0 f.2 inner))

stream_list : (k total : ℕ) → Streams total k
stream_list zero total text ts rest ends us e lt fits q b left = absurd (omega arith)
stream_list (suc k) total text ts rest ends us e lt fits q b left = enclosed_stream total k
    (stream_list k total) text ts rest ends us e lt fits q b left (raw text) refl

-- the tokens of a text are left of it
pub stream : (total : ℕ) (text : List ℕ) (ts : List Token) (e : Ending) → width text ≤ total
    → TokensOf total text ts e → LeftOf total [] false text ts e
stream total text ts e fits (at_end t r) = left_nothing [] false text r
stream total text ts e fits (at_fault t from after r) = left_fault [] false text from after r
stream total text ts e fits (before_template t from after rest kind us vs f r w q h) =
    let fit = narrower total text from after kind r fits in
    let inner = stream total rest vs e
    (omega (arith, fit, within after rest (template_leaves total after us rest q))) h in
    left_token [] false text from after kind (us ++ vs) e r tt (λ x. absurd cc)
    (subst (λ x. LeftOf total [] x after (us ++ vs) e) (sym w) (stream_list (suc (length after))
    total after us rest [] vs e (omega arith) fit q (λ k f' a x. tt) inner))
stream total text ts e fits (before_more t from after kind us f r n h) =
    left_token [] false text from after kind us e r tt (λ x. absurd cc)
    (unflagged total [] (is_word kind.class) false after us e refl n
    (stream total after us e (narrower total text from after kind r fits) h))

-- and what is left of a text are its tokens
pub unstream : (total : ℕ) (text : List ℕ) (ts : List Token) (e : Ending) → width text ≤ total
    → LeftOf total [] false text ts e → TokensOf total text ts e
unstream total text ts e fits h =
    let m = tokens_exist total text in
    let same = left_unique total [] false text m.0 ts m.1 e (stream total text m.0 m.1 fits m.2) h in
    subst (λ x. TokensOf total text ts x) same.1 (subst (λ (x : List Token). TokensOf total text x m.1) same.0 m.2)
