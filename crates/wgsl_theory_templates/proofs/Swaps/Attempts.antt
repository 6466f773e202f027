-- How far a list that would begin at a `<` was read: what is read from there is read alike by each
-- list around that `<`.
use Rattle.std.proofs.Common.{◌≡◌, ◌⊎◌, ◌+◌, ℕ, suc, Bool, true, false, not, List, [], ◌∷◌, ◌++◌, drop, inl, inr, refl, sym, ap, subst, ◌∙◌, append-nil, append_assoc, arith}
use Rattle.grammar.specs.Tokens.{Token}
use Rattle.grammar.specs.Grammar.{is_among}
use Rattle.grammar.proofs.Reading.Sets.{not_true}
use Rattle.wgsl_model.specs.Tokens.ClassTable.{SymLessThan}
use Rattle.wgsl_model.specs.Tokens.Kind.{Kind}
use Rattle.wgsl_model.specs.Tokens.Raw.{Raw, token, raw}
use Rattle.wgsl_model.specs.Tokens.Templates.{is_word, is_opening, is_closing, begins_with_greater, goes_on, NoTemplate, Inside, at_greater, at_opening, at_closing, at_template, at_other, Enclosed, enclosed, Template}
use Rattle.wgsl_theory_grammar.proofs.Tokens.Classes.{passes_on, opening_word, closing_word}
use Rattle.wgsl_theory_grammar.proofs.Tokens.Bounds.{template_is}
use Rattle.wgsl_theory_grammar.proofs.Tokens.Inside.{at, step_at, After, after_list, after_none, from_opening, from_closing, from_other, to_other}
use Rattle.wgsl_theory_grammar.proofs.Tokens.Unique.{template_unique, marked}
use Rattle.wgsl_theory_grammar.proofs.Tokens.Decided.{enclosed_kind}
use Rattle.wgsl_theory_templates.specs.Attempts.{EndsAt, HasNoEnd, ReadsTo, less_signs}
use Rattle.wgsl_theory_templates.proofs.Swaps.InsideNested.{no_less}
use Rattle.wgsl_theory_templates.proofs.Swaps.ReadAlike.{no_list_after, deeper_goes_on}

-- ---- a list and its `<`
-- the list at the front of a text whose first token is known
pub list_front : (total : ℕ) (text from after : List ℕ) (kind : Kind) (ts : List Token) (rest : List ℕ)
    → raw text ≡ token kind from after → Template total text ts rest
    → (kind.class ≡ SymLessThan) × (end : List ℕ) × (k : EndsAt total after end)
    × (ts ≡ marked total from after k.0 end) × (rest ≡ drop 1 end)
list_front total text from after kind ts rest e h = enclosed_front ts rest ((template_is total text ts rest).0 h) where
  enclosed_front : (ts : List Token) (rest : List ℕ) → Enclosed total (Template total) text ts rest
      → (kind.class ≡ SymLessThan) × (end : List ℕ) × (k : EndsAt total after end)
      × (ts ≡ marked total from after k.0 end) × (rest ≡ drop 1 end)
  enclosed_front ts rest (enclosed t from' after' end kind' us v r c i d) =
      let same : token kind from after ≡ token kind' from' after' = sym e ∙ r in
      let k : kind ≡ kind' = cc in let f : from ≡ from' = cc in let a : after ≡ after' = cc in (
        ap (λ (x : Kind). x.class) k ∙ c,
        end,
        (us, subst (λ (x : List ℕ). Inside total (Template total) 0 x us end) (sym a) i, (v, d)),
        rw (f, a) refl,
        refl,
      )

-- and back
pub front_list : (total : ℕ) (text from after end : List ℕ) (kind : Kind)
    → raw text ≡ token kind from after → kind.class ≡ SymLessThan → (k : EndsAt total after end)
    → Template total text (marked total from after k.0 end) (drop 1 end)
front_list total text from after end kind e c (us, i, (v, d)) =
    (template_is total text (marked total from after us end) (drop 1 end)).1
    (enclosed text from after end kind us v e c i d)

-- no template list begins with a `<` that begins no list
pub none_begins : (total : ℕ) (text from after : List ℕ) (kind : Kind) → raw text ≡ token kind from after
    → (kind.class ≡ SymLessThan → HasNoEnd total after) → NoTemplate (Template total) text
none_begins total text from after kind e n ts rest h =
    let k = list_front total text from after kind ts rest e h in n k.0 k.1 k.2

-- nor where there is no token
pub none_left_begins : (total : ℕ) (text : List ℕ) (r : Raw) → raw text ≡ r
    → ((kind : Kind) (from after : List ℕ) → r ≡ token kind from after → ⊥)
    → NoTemplate (Template total) text
none_left_begins total text r e n ts rest h =
    let k = enclosed_kind total (Template total) text ts rest ((template_is total text ts rest).0 h) in
    n k.3 k.0 k.1 (sym e ∙ k.5)

-- ---- what was read
no_word_after : (total : ℕ) (word : Bool) (depth : ℕ) (text : List ℕ) (ts : List Token) (end : List ℕ)
    → (word ≡ true → ⊥) → Inside total (Template total) depth text ts end
    → After total (Template total) word depth text ts end
no_word_after total word depth text ts end n h = after_none (λ w. absurd (n w)) h

-- at the start
pub starts : (total : ℕ) (text : List ℕ) → ReadsTo total text [] false 0 text
starts total text = record {
  forth = λ d ts end h. let e : d + 0 ≡ d = omega arith in no_list_after total (Template total) false d text ts end
      (λ w. absurd cc) (subst (λ (x : ℕ). After total (Template total) false x text ts end) e h);
  back = λ d ts end h. let e : d ≡ d + 0 = omega arith in (
    ts,
    refl,
    no_word_after total false (d + 0) text ts end (λ w. cc)
        (subst (λ (x : ℕ). Inside total (Template total) x text ts end) e h),
  );
}

-- where no list begins the rest, it is of no account whether the last token was a word
pub forget_word : (total : ℕ) (text : List ℕ) (seen : List Token) (word : Bool) (depth : ℕ) (rest : List ℕ)
    → ReadsTo total text seen word depth rest → (word ≡ true → NoTemplate (Template total) rest)
    → ReadsTo total text seen false depth rest
forget_word total text seen word depth rest r n = record {
  forth = λ d ts end h. r.forth d ts end (after_none n
      (no_list_after total (Template total) false (d + depth) rest ts end (λ w. absurd cc) h));
  back = λ d ts end h.
      let k = r.back d ts end h in (
        k.0,
        k.1,
        no_word_after total false (d + depth) rest k.0 end (λ w. cc)
            (no_list_after total (Template total) word (d + depth) rest k.0 end n k.2),
      );
}

-- nor at which of two texts with the same first token one is
inside_alike : (total depth : ℕ) (text other : List ℕ) (ts : List Token) (end : List ℕ)
    → raw other ≡ raw text → Inside total (Template total) depth text ts end
    → Inside total (Template total) depth other ts end
inside_alike total depth text other ts end e (at_greater t f after k r g) = at_greater other f after k (e ∙ r) g
inside_alike total depth text other ts end e (at_opening d t from after f k us r g h) =
    at_opening d other from after f k us (e ∙ r) g h
inside_alike total depth text other ts end e (at_closing d t from after f k us r g h) =
    at_closing d other from after f k us (e ∙ r) g h
inside_alike total depth text other ts end e (at_template d t from after rest f k us vs r w q h) =
    at_template d other from after rest f k us vs (e ∙ r) w q h
inside_alike total depth text other ts end e (at_other d t from after f k us r g n h) =
    at_other d other from after f k us (e ∙ r) g n h

pub reads_alike : (total : ℕ) (text : List ℕ) (seen : List Token) (depth : ℕ) (rest other : List ℕ)
    → raw rest ≡ raw other → ReadsTo total text seen false depth rest
    → ReadsTo total text seen false depth other
reads_alike total text seen depth rest other e r = record {
  forth = λ d ts end h.
      let i = inside_alike total (d + depth) other rest ts end e
      (no_list_after total (Template total) false (d + depth) other ts end (λ w. absurd cc) h) in
      r.forth d ts end (no_word_after total false (d + depth) rest ts end (λ w. cc) i);
  back = λ d ts end h.
      let k = r.back d ts end h in
      let i = inside_alike total (d + depth) rest other k.0 end (sym e)
      (no_list_after total (Template total) false (d + depth) rest k.0 end (λ w. absurd cc) k.2) in
      (k.0, k.1, no_word_after total false (d + depth) other k.0 end (λ w. cc) i);
}

-- a token that is taken with a number of brackets open, and a number of are after it
abbrev pub IsTaken : ℕ → ℕ → ℕ → Type 0
IsTaken depth class following = ((is_opening class ≡ true) × (following ≡ suc depth))
    ⊎ (((is_closing class ≡ true) × (depth ≡ suc following)) ⊎ ((goes_on depth class ≡ true) × (following ≡ depth)))

deeper_taken : (d depth class following : ℕ) → IsTaken depth class following → IsTaken (d + depth) class (d + following)
deeper_taken d depth class following (inl (o, e)) = inl (o, omega (arith, e))
deeper_taken d depth class following (inr (inl (l, e))) = inr (inl (l, omega (arith, e)))
deeper_taken d depth class following (inr (inr (g, e))) =
    inr (inr (deeper_goes_on depth (d + depth) class (omega arith) g, omega (arith, e)))

takes_forth : (total depth following : ℕ) (text from after : List ℕ) (kind : Kind) (ts : List Token) (end : List ℕ)
    → raw text ≡ token kind from after → IsTaken depth kind.class following
    → After total (Template total) (is_word kind.class) following after ts end
    → Inside total (Template total) depth text (at total kind from after ∷ ts) end
takes_forth total depth following text from after kind ts end e (inl (o, d)) h =
    let i = no_list_after total (Template total) (is_word kind.class) following after ts end
    (λ w. absurd (opening_word kind.class o w)) h in
    at_opening depth text from after end kind ts e o
    (subst (λ (x : ℕ). Inside total (Template total) x after ts end) d i)
takes_forth total depth following text from after kind ts end e (inr (inl (l, d))) h =
    let i = no_list_after total (Template total) (is_word kind.class) following after ts end
    (λ w. absurd (closing_word kind.class l w)) h in
    subst (λ (x : ℕ). Inside total (Template total) x text (at total kind from after ∷ ts) end)
    (sym d) (at_closing following text from after end kind ts e l i)
takes_forth total depth following text from after kind ts end e (inr (inr (g, d))) h =
    to_other total (Template total) depth text from after kind ts end e g
    (subst (λ (x : ℕ). After total (Template total) (is_word kind.class) x after ts end) d h)

takes_back : (total depth following : ℕ) (text from after : List ℕ) (kind : Kind) (ts : List Token) (end : List ℕ)
    → raw text ≡ token kind from after → IsTaken depth kind.class following
    → Inside total (Template total) depth text ts end
    → (us : List Token) × (ts ≡ at total kind from after ∷ us)
    × After total (Template total) (is_word kind.class) following after us end
takes_back total depth following text from after kind ts end e (inl (o, d)) h =
    let k = from_opening total (Template total) depth kind from after ts end o
    (step_at total (Template total) depth text ts end (token kind from after) e h) in (
      k.0,
      k.1,
      no_word_after total (is_word kind.class) following after k.0 end (λ w. opening_word kind.class o w)
          (subst (λ (x : ℕ). Inside total (Template total) x after k.0 end) (sym d) k.2),
    )
takes_back total depth following text from after kind ts end e (inr (inl (l, d))) h =
    let k = from_closing total (Template total) depth kind from after ts end l
    (step_at total (Template total) depth text ts end (token kind from after) e h) in
    let up = sym k.1 ∙ d in let same : k.0 ≡ following = cc in (
      k.2,
      k.3,
      no_word_after total (is_word kind.class) following after k.2 end (λ w. closing_word kind.class l w)
          (subst (λ (x : ℕ). Inside total (Template total) x after k.2 end) same k.4),
    )
takes_back total depth following text from after kind ts end e (inr (inr (g, d))) h =
    let k = from_other total (Template total) depth kind from after ts end g
    (step_at total (Template total) depth text ts end (token kind from after) e h) in
    (k.0, k.1, subst (λ (x : ℕ). After total (Template total) (is_word kind.class) x after k.0 end) (sym d) k.2)

-- one token is taken, which begins no list after a word
pub takes : (total : ℕ) (text : List ℕ) (seen : List Token) (word : Bool) (depth following : ℕ)
    (rest from after : List ℕ) (kind : Kind) → ReadsTo total text seen word depth rest
    → raw rest ≡ token kind from after
    → (word ≡ true → kind.class ≡ SymLessThan → HasNoEnd total after) → IsTaken depth kind.class following
    → ReadsTo total text (seen ++ at total kind from after ∷ []) (is_word kind.class) following after
takes total text seen word depth following rest from after kind r e n t =
    let none : word ≡ true → NoTemplate (Template total) rest = λ w. none_begins total rest from after kind e (n w) in
    let token_at : Token = at total kind from after in
    record {
      forth = λ d ts end h.
          subst (λ (x : List Token). Inside total (Template total) d text x end)
          (sym (append_assoc seen (token_at ∷ []) ts))
          (r.forth d (token_at ∷ ts) end (after_none none (takes_forth total (d + depth)
          (d + following) rest from after kind ts end e (deeper_taken d depth kind.class following t) h)));
      back = λ d ts end h.
          let k = r.back d ts end h in
          let m = takes_back total (d + depth) (d + following) rest from after kind k.0 end e
          (deeper_taken d depth kind.class following t)
          (no_list_after total (Template total) word (d + depth) rest k.0 end none k.2) in
          (m.0, k.1 ∙ ap (λ (x : List Token). seen ++ x) m.1 ∙ sym (append_assoc seen (token_at ∷ []) m.0), m.2);
    }

-- after a word, a list is taken whole
pub takes_list : (total : ℕ) (text : List ℕ) (seen : List Token) (word : Bool) (depth : ℕ)
    (rest from after end : List ℕ) (kind : Kind) → ReadsTo total text seen word depth rest
    → raw rest ≡ token kind from after
    → word ≡ true → kind.class ≡ SymLessThan → (k : EndsAt total after end)
    → ReadsTo total text (seen ++ marked total from after k.0 end) false depth (drop 1 end)
takes_list total text seen word depth rest from after end kind r e w c k =
    let ms = marked total from after k.0 end in
    let q = front_list total rest from after end kind e c k in
    record {
      forth = λ d ts f h.
          subst (λ (x : List Token). Inside total (Template total) d text x f) (sym (append_assoc seen ms ts))
          (r.forth d (ms ++ ts) f (after_list w ms ts (drop 1 end) q refl (no_list_after total
          (Template total) false (d + depth) (drop 1 end) ts f (λ x. absurd cc) h)));
      back = λ d ts f h.
          let m = r.back d ts f h in
          let b = again (d + depth) ms q m.0 f m.2 in
          (b.0, m.1 ∙ ap (λ (x : List Token). seen ++ x) b.1 ∙ sym (append_assoc seen ms b.0), b.2);
    }
  where
    again : (d : ℕ) (ms : List Token) → Template total rest ms (drop 1 end)
        → (ts : List Token) (f : List ℕ) → After total (Template total) word d rest ts f
        → (vs : List Token) × (ts ≡ ms ++ vs) × After total (Template total) false d (drop 1 end) vs f
    again d ms q ts f (after_list w' us' vs rest' q' s h) =
        let same = template_unique total rest ms us' (drop 1 end) rest' q q' in (
          vs,
          s ∙ ap (λ (x : List Token). x ++ vs) (sym same.0),
          after_none (λ x. absurd cc)
              (subst (λ (x : List ℕ). Inside total (Template total) d x vs f) (sym same.1) h),
        )
    again d ms q ts f (after_none n h) = absurd (n w ms (drop 1 end) q)

-- an operator that ends with a `<` is taken, and is no word
pub sign_taken : (depth c : ℕ) → is_among c less_signs ≡ true → (goes_on depth c ≡ true) × (is_word c ≡ false)
sign_taken depth c m = (
  deeper_goes_on 0 depth c (omega arith) (passes_on (goes_on 0) c less_signs refl m),
  not_true (is_word c) (passes_on (λ x. not (is_word x)) c less_signs refl m),
)

-- what was read from a place that was come to goes on what was read up to there
pub goes_further : (total : ℕ) (text : List ℕ) (seen more : List Token) (word : Bool)
    (depth deep : ℕ) (place rest : List ℕ) → ReadsTo total text seen false depth place
    → ReadsTo total place more word deep rest
    → ReadsTo total text (seen ++ more) word (depth + deep) rest
goes_further total text seen more word depth deep place rest r s = record {
  forth = λ d ts end h.
      let e : d + (depth + deep) ≡ (d + depth) + deep = omega arith in
      subst (λ (x : List Token). Inside total (Template total) d text x end) (sym (append_assoc seen more ts))
      (r.forth d (more ++ ts) end (no_word_after total false (d + depth) place (more ++ ts) end (λ w. cc)
      (s.forth (d + depth) ts end (subst (λ (x : ℕ). After total (Template total) word x rest ts end) e h))));
  back = λ d ts end h.
      let e : (d + depth) + deep ≡ d + (depth + deep) = omega arith in
      let k = r.back d ts end h in
      let m = s.back (d + depth) k.0 end
      (no_list_after total (Template total) false (d + depth) place k.0 end (λ w. absurd cc) k.2) in (
        m.0,
        k.1 ∙ ap (λ (x : List Token). seen ++ x) m.1 ∙ sym (append_assoc seen more m.0),
        subst (λ (x : ℕ). After total (Template total) word x rest m.0 end) e m.2,
      );
}

-- and what was read after an operator that ends with a `<` goes on what was read up to it, where it
-- begins no list after a word
pub goes_by_less : (total : ℕ) (text : List ℕ) (seen more : List Token) (word last : Bool)
    (depth deep : ℕ) (rest from after place : List ℕ) (kind : Kind)
    → ReadsTo total text seen word depth rest → raw rest ≡ token kind from after
    → is_among kind.class less_signs ≡ true
    → (word ≡ true → kind.class ≡ SymLessThan → HasNoEnd total after)
    → ReadsTo total after more last deep place
    → ReadsTo total text (seen ++ (at total kind from after ∷ more)) last (depth + deep) place
goes_by_less total text seen more word last depth deep rest from after place kind r e c n s =
    let less : Token = at total kind from after in
    let is = sign_taken depth kind.class c in
    let one : ReadsTo total text (seen ++ less ∷ []) false depth after =
    subst (λ (x : Bool). ReadsTo total text (seen ++ less ∷ []) x depth after) is.1
    (takes total text seen word depth depth rest from after kind r e n (inr (inr (is.0, refl)))) in
    subst (λ (x : List Token). ReadsTo total text x last (depth + deep) place)
    (append_assoc seen (less ∷ []) more)
    (goes_further total text (seen ++ less ∷ []) more last depth deep after place one s)

-- the `>` that ends the list
pub ends : (total : ℕ) (text : List ℕ) (seen : List Token) (word : Bool) (rest from after : List ℕ)
    (kind : Kind) → ReadsTo total text seen word 0 rest → raw rest ≡ token kind from after
    → begins_with_greater kind.class ≡ true
    → Inside total (Template total) 0 text seen from
ends total text seen word rest from after kind r e g =
    subst (λ (x : List Token). Inside total (Template total) 0 text x from) (append-nil seen)
    (r.forth 0 [] from (after_none (λ w. none_begins total rest from after kind e (λ l.
    absurd (no_less begins_with_greater kind.class g refl l))) (at_greater rest from after kind e g)))
