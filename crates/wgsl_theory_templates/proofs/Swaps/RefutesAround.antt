-- What refutes a list that would begin at a `<`: alone, or with each list around it.
use Rattle.std.proofs.Common.{◌≡◌, ◌+◌, ℕ, Bool, true, List, ◌∷◌, ◌++◌, refl, sym, ap, subst, ◌∙◌, append_assoc, arith}
use Rattle.grammar.specs.Tokens.{Token}
use Rattle.grammar.specs.Grammar.{is_among}
use Rattle.grammar.proofs.Reading.Sets.{clash}
use Rattle.wgsl_model.specs.Tokens.Kind.{Kind}
use Rattle.wgsl_model.specs.Tokens.Raw.{Raw, none_left, invalid, token, raw}
use Rattle.wgsl_model.specs.Tokens.Templates.{is_word, is_closing, begins_with_greater, is_short_circuit, NoTemplate, Inside, Template}
use Rattle.wgsl_theory_grammar.specs.Tokens.Refuted.{in_no_expression}
use Rattle.wgsl_theory_grammar.proofs.Tokens.Inside.{at, Step, greater_step, opening_step, closing_step, template_step, other_step, step_at, from_closing, from_short_circuit, from_other}
use Rattle.wgsl_theory_grammar.proofs.Tokens.Unique.{inside_unique, template_unique}
use Rattle.wgsl_theory_grammar.proofs.Tokens.Decided.{IsList}
use Rattle.wgsl_theory_grammar.proofs.Tokens.Refuted.{refuted, none_greater}
use Rattle.wgsl_theory_templates.proofs.Swaps.InsideNested.{no_less}
use Rattle.wgsl_theory_templates.proofs.Swaps.ReadAlike.{no_list_after, list_within}
use Rattle.wgsl_theory_templates.specs.Attempts.{HasNoEnd, NoneAround, ReadsTo, less_signs}
use Rattle.wgsl_theory_templates.proofs.Swaps.Attempts.{none_begins, none_left_begins, sign_taken}

-- ---- where it ends
-- what is inside is no list of expressions: then there is none around it
pub closed_refutes : (total : ℕ) (text : List ℕ) (us : List Token) (e : List ℕ)
    → Inside total (Template total) 0 text us e → (IsList us → ⊥) → NoneAround total text
closed_refutes total text us e i never = (
  λ end k. never (subst IsList (sym (inside_unique total (Template total)
      (template_unique total) 0 text us k.0 e end i k.1).0) k.2),
  λ before less ts depth end c h l. never (list_within total before less ts us depth text end e l c h i),
)

-- ---- where it goes on
-- no such list has the rest
abbrev Never : ℕ → ℕ → List ℕ → Type 0
Never total depth rest = (before us : List Token) (end : List ℕ)
    → Inside total (Template total) depth rest us end → IsList (before ++ us) → ⊥

-- the rest is refuted for the list itself
alone : (total : ℕ) (text : List ℕ) (seen : List Token) (word : Bool) (depth : ℕ) (rest : List ℕ)
    → ReadsTo total text seen word depth rest → (word ≡ true → NoTemplate (Template total) rest)
    → Never total depth rest → HasNoEnd total text
alone total text seen word depth rest r n never end (ts, i, l) =
    let k = r.back 0 ts end i in
    let e : 0 + depth ≡ depth = omega arith in
    never seen k.0 end (subst (λ (x : ℕ). Inside total (Template total) x rest k.0 end) e
    (no_list_after total (Template total) word (0 + depth) rest k.0 end n k.2)) (subst IsList k.1 l)

-- and for each around it
around : (total : ℕ) (text : List ℕ) (seen : List Token) (word : Bool) (depth : ℕ) (rest : List ℕ)
    → ReadsTo total text seen word depth rest → (word ≡ true → NoTemplate (Template total) rest)
    → ((d : ℕ) → Never total (d + depth) rest) → NoneAround total text
around total text seen word depth rest r n never =
    let e : 0 + depth ≡ depth = omega arith in (
      alone total text seen word depth rest r n (subst (λ (x : ℕ). Never total x rest) e (never 0)),
      λ before less ts d end c h l.
          let k = r.back d ts end h in
          never d (before ++ (less ∷ seen)) k.0 end
          (no_list_after total (Template total) word (d + depth) rest k.0 end n k.2)
          (subst IsList (ap (λ (x : List Token). before ++ (less ∷ x)) k.1
          ∙ sym (append_assoc before (less ∷ seen) k.0)) l),
    )

-- ---- a token that no expression has
first_is : (total depth : ℕ) (kind : Kind) (from after : List ℕ) (ts : List Token) (end : List ℕ)
    → (begins_with_greater kind.class ≡ true → ⊥) → Step total (Template total) depth kind from after ts end
    → (us : List Token) × (ts ≡ at total kind from after ∷ us)
first_is total depth kind from after ts end n (greater_step z b e f) = absurd (n b)
first_is total depth kind from after ts end n (opening_step o us e h) = (us, e)
first_is total depth kind from after ts end n (closing_step l d z us e h) = (us, e)
first_is total depth kind from after ts end n (template_step w us vs rest q e h) = (us ++ vs, e)
first_is total depth kind from after ts end n (other_step o m us e h) = (us, e)

pub token_refutes : (total : ℕ) (text : List ℕ) (seen : List Token) (word : Bool) (depth : ℕ)
    (rest from after : List ℕ) (kind : Kind) → ReadsTo total text seen word depth rest
    → raw rest ≡ token kind from after
    → is_among kind.class in_no_expression ≡ true → NoneAround total text
token_refutes total text seen word depth rest from after kind r e m =
    around total text seen word depth rest r (λ w. none_begins total rest from after kind e
    (λ c. absurd (no_less (λ x. is_among x in_no_expression) kind.class m refl c))) (λ d before us end h l.
    let k = first_is total (d + depth) kind from after us end (λ g. none_greater kind.class m g)
    (step_at total (Template total) (d + depth) rest us end (token kind from after) e h) in
    refuted before (at total kind from after) k.0 m (subst (λ (x : List Token). IsList (before ++ x)) k.1 l))

-- ---- no token
nothing_inside : (total depth : ℕ) (rest : List ℕ) (x : Raw) → raw rest ≡ x
    → ((kind : Kind) (from after : List ℕ) → x ≡ token kind from after → ⊥)
    → (us : List Token) (end : List ℕ) → Inside total (Template total) depth rest us end → ⊥
nothing_inside total depth rest none_left e n us end h = step_at total (Template total) depth rest us end none_left e h
nothing_inside total depth rest (invalid from after) e n us end h = step_at total
    (Template total) depth rest us end (invalid from after) e h
nothing_inside total depth rest (token kind from after) e n us end h = n kind from after refl

-- the end of the text, or an invalid token
pub nothing_refutes : (total : ℕ) (text : List ℕ) (seen : List Token) (word : Bool) (depth : ℕ)
    (rest : List ℕ) (x : Raw) → ReadsTo total text seen word depth rest → raw rest ≡ x
    → ((kind : Kind) (from after : List ℕ) → x ≡ token kind from after → ⊥)
    → NoneAround total text
nothing_refutes total text seen word depth rest x r e n =
    around total text seen word depth rest r (λ w. none_left_begins total rest x e n)
    (λ d before us end h l. nothing_inside total (d + depth) rest x e n us end h)

-- ---- an operator that ends with a `<`
-- the tokens after it
after_less : (total depth : ℕ) (rest from after : List ℕ) (kind : Kind) (us : List Token) (end : List ℕ)
    → raw rest ≡ token kind from after → is_among kind.class less_signs ≡ true
    → Inside total (Template total) depth rest us end
    → (vs : List Token) × (us ≡ at total kind from after ∷ vs) × Inside total (Template total) depth after vs end
after_less total depth rest from after kind us end e c h =
    let is = sign_taken depth kind.class c in
    let k = from_other total (Template total) depth kind from after us end is.0
    (step_at total (Template total) depth rest us end (token kind from after) e h) in
    (k.0, k.1, no_list_after total (Template total) (is_word kind.class) depth after k.0 end (λ w. clash _ w is.1) k.2)

-- one that is refuted with each list around it, wherever it is
pub refuted_less_refutes : (total : ℕ) (text : List ℕ) (seen : List Token) (word : Bool) (depth : ℕ)
    (rest from after : List ℕ) (kind : Kind) → ReadsTo total text seen word depth rest
    → raw rest ≡ token kind from after
    → is_among kind.class less_signs ≡ true → NoneAround total after → NoneAround total text
refuted_less_refutes total text seen word depth rest from after kind r e c n =
    around total text seen word depth rest r
    (λ w. none_begins total rest from after kind e (λ l. n.0)) (λ d before us end h l.
    let k = after_less total (d + depth) rest from after kind us end e c h in
    n.1 before (at total kind from after) k.0 (d + depth) end c k.2
    (subst (λ (x : List Token). IsList (before ++ x)) k.1 l))

-- no list of expressions has, outside brackets, one that begins no list
pub less_in_no_list : (total : ℕ) (before : List Token) (less : Token) (ts : List Token) (after end : List ℕ)
    → IsList (before ++ (less ∷ ts)) → is_among less.class less_signs ≡ true → HasNoEnd total after
    → Inside total (Template total) 0 after ts end → ⊥
less_in_no_list total before less ts after end l c n h = n end
    (ts, h, list_within total before less ts ts 0 after end end l c h h)

-- one that begins no list, outside brackets
pub less_refutes : (total : ℕ) (text : List ℕ) (seen : List Token) (word : Bool) (rest from after : List ℕ)
    (kind : Kind) → ReadsTo total text seen word 0 rest → raw rest ≡ token kind from after
    → is_among kind.class less_signs ≡ true → HasNoEnd total after → HasNoEnd total text
less_refutes total text seen word rest from after kind r e c n =
    alone total text seen word 0 rest r (λ w. none_begins total rest from after kind e (λ l. n))
    (λ before us end h l.
    let k = after_less total 0 rest from after kind us end e c h in
    less_in_no_list total before (at total kind from after) k.0 after end
    (subst (λ (x : List Token). IsList (before ++ x)) k.1 l) c n k.2)

-- ---- outside brackets
-- a closing bracket
pub closing_refutes : (total : ℕ) (text : List ℕ) (seen : List Token) (word : Bool)
    (rest from after : List ℕ) (kind : Kind) → ReadsTo total text seen word 0 rest
    → raw rest ≡ token kind from after → is_closing kind.class ≡ true → HasNoEnd total text
closing_refutes total text seen word rest from after kind r e c =
    alone total text seen word 0 rest r
    (λ w. none_begins total rest from after kind e (λ l. absurd (no_less is_closing kind.class c refl l)))
    (λ before us end h l.
    let k = from_closing total (Template total) 0 kind from after us end c
    (step_at total (Template total) 0 rest us end (token kind from after) e h) in
    let z = k.1 in cc)

-- `&&` or `||`
pub short_circuit_refutes : (total : ℕ) (text : List ℕ) (seen : List Token) (word : Bool)
    (rest from after : List ℕ) (kind : Kind) → ReadsTo total text seen word 0 rest
    → raw rest ≡ token kind from after → is_short_circuit kind.class ≡ true
    → HasNoEnd total text
short_circuit_refutes total text seen word rest from after kind r e c =
    alone total text seen word 0 rest r
    (λ w. none_begins total rest from after kind e (λ l. absurd (no_less is_short_circuit kind.class c refl l)))
    (λ before us end h l. from_short_circuit total (Template total) kind from after us end c
    (step_at total (Template total) 0 rest us end (token kind from after) e h))
