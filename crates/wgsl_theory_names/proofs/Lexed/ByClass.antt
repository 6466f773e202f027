-- Whether tokens are a list of expressions depends on their classes alone.
use Rattle.std.proofs.Common.{◌≡◌, ℕ, Bool, true, false, cond, eqb, List, [], ◌∷◌, map, Some, None, refl, sym, ap, subst, ◌∙◌, inl, inr, ◌&&◌}
use Rattle.std.proofs.lemmas.Bool.{true≢false}
use Rattle.grammar.specs.Tokens.{Token, Span, Fault, span_between}
use Rattle.grammar.specs.Grammar.{Grammar.empty, Grammar.token, Grammar.sequence, Grammar.choice, Grammar.mapped, Grammar.node, Grammar.checked, Grammar.symbol, Grammar.left_chain, Mode.checking, Chain, Chain.base, Chain.more, Means, is_among}
use Rattle.grammar.proofs.Reading.Depth.{roll}
use Rattle.wgsl_model.specs.Tokens.ClassTable.{Ident, ReservedWord}
use Rattle.wgsl_model.specs.Grammar.Symbols.{Symbol, ident, type_specifier, template_list, expressions, call, arguments, literal, primary_expression, singular_expression, component, unary_expression, multiplicative_expression, negated_expression, additive_expression, shift_expression, relational_expression, expression, Value, Rule}
use Rattle.wgsl_model.specs.Grammar.Written.{written}
use Rattle.wgsl_theory_grammar.proofs.Tokens.Decided.{IsList}
use Rattle.wgsl_theory_reread.proofs.Again.{D}
use Rattle.wgsl_theory_reread.proofs.Derived.{by_derivation}

-- the classes of tokens
abbrev pub classes : List Token → List ℕ
classes = map (λ (t : Token). t.class)

-- the symbols that expressions are made of, but names
abbrev is_of_expressions : Symbol → Bool
is_of_expressions type_specifier = true
is_of_expressions template_list = true
is_of_expressions expressions = true
is_of_expressions call = true
is_of_expressions arguments = true
is_of_expressions literal = true
is_of_expressions primary_expression = true
is_of_expressions singular_expression = true
is_of_expressions component = true
is_of_expressions unary_expression = true
is_of_expressions multiplicative_expression = true
is_of_expressions negated_expression = true
is_of_expressions additive_expression = true
is_of_expressions shift_expression = true
is_of_expressions relational_expression = true
is_of_expressions expression = true
is_of_expressions n = false

-- and names
abbrev is_read_by_class : Symbol → Bool
is_read_by_class ident = true
is_read_by_class n = is_of_expressions n

-- a right side has no checks, and symbols of expressions only
abbrev is_by_class : {A : Type 0} → Rule A → Bool
is_by_class (empty a) = true
is_by_class (token s) = true
is_by_class (sequence g h) = is_by_class g && is_by_class h
is_by_class (choice g h) = is_by_class g && is_by_class h
is_by_class (mapped k g) = is_by_class g
is_by_class (node k g) = is_by_class g
is_by_class (checked k g) = false
is_by_class (symbol n) = is_read_by_class n
is_by_class (left_chain k g h) = is_by_class g && is_by_class h

rule_by_class : (n : Symbol) → is_of_expressions n ≡ true → is_by_class (written n) ≡ true
rule_by_class type_specifier e = refl
rule_by_class template_list e = refl
rule_by_class expressions e = refl
rule_by_class call e = refl
rule_by_class arguments e = refl
rule_by_class literal e = refl
rule_by_class primary_expression e = refl
rule_by_class singular_expression e = refl
rule_by_class component e = refl
rule_by_class unary_expression e = refl
rule_by_class multiplicative_expression e = refl
rule_by_class negated_expression e = refl
rule_by_class additive_expression e = refl
rule_by_class shift_expression e = refl
rule_by_class relational_expression e = refl
rule_by_class expression e = refl
rule_by_class n e = absurd (cc)

-- what is derived from tokens, up to tokens of some classes
record Found {A : Type 0} (P : A → List Token → List Token → Type 0) (us : List Token) (cs : List ℕ) : Type 0 where
  value : A
  rest : List Token
  same : classes rest ≡ cs
  derived : P value us rest

-- from all tokens of the classes of xs something is derived
abbrev ByClass : (n : Symbol) → Value n → List Token → List Token → Type 0
ByClass n v xs ys = is_read_by_class n ≡ true → (us : List Token) → classes us ≡ classes xs
    → Found (D n) us (classes ys)

-- the first token of some classes, and the rest
pub record First (us : List Token) (c : ℕ) (cs : List ℕ) : Type 0 where
  pub token : Token
  pub rest : List Token
  pub whole : us ≡ token ∷ rest
  pub class : token.class ≡ c
  pub classes_after : classes rest ≡ cs

pub first_of : (us : List Token) (c : ℕ) (cs : List ℕ) → classes us ≡ c ∷ cs → First us c cs
first_of [] c cs e = absurd (cc)
first_of (u ∷ us) c cs e = record { token = u; rest = us; whole = refl; class = cc; classes_after = cc }

both : (a b : Bool) → (a && b) ≡ true → (a ≡ true) × (b ≡ true)
both true b e = (refl, e)
both false b e = absurd (true≢false (sym e))

-- what P derives, Q derives from all tokens of the classes
abbrev Transfers : {A : Type 0} → (A → List Token → List Token → Type 0) → (A → List Token → List Token → Type 0)
    → Type 0
Transfers {A} P Q = (v : A) (xs ys : List Token) → P v xs ys → (us : List Token) → classes us ≡ classes xs
    → Found Q us (classes ys)

chain_by_class : {A B : Type 0} (k : A → B → Span → A) {P Q : A → List Token → List Token → Type 0}
    {R S : B → List Token → List Token → Type 0} → Transfers P Q → Transfers R S
    → (xs : List Token) (v : A) (ys : List Token) → Chain k P R xs v ys
    → (us : List Token) → classes us ≡ classes xs → Found (λ a vs ws. Chain k Q S vs a ws) us (classes ys)
chain_by_class k G H xs _ _ (base a ys c) us e =
    let x = G a xs ys c us e in
    record { value = x.value; rest = x.rest; same = x.same; derived = base x.value x.rest x.derived }
chain_by_class k G H xs _ _ (more a b ys zs c d) us e =
    let x = chain_by_class k G H xs a ys c us e in
    let y = H b ys zs d x.rest x.same in
    record {
      value = k x.value y.value (span_between us y.rest);
      rest = y.rest;
      same = y.same;
      derived = more x.value y.value x.rest y.rest x.derived y.derived;
    }

by_class : {A : Type 0} (g : Rule A) → is_by_class g ≡ true → Transfers (Means checking ByClass g) (Means checking D g)
by_class (empty a) known v xs ys d us e =
    record { value = a; rest = us; same = e ∙ ap classes d.1; derived = (refl, refl) }
by_class (token s) known v xs ys d us e =
    let first = first_of us v.class (classes ys) (e ∙ ap classes d.1) in
    record {
      value = first.token;
      rest = first.rest;
      same = first.classes_after;
      derived = (subst (λ (c : ℕ). is_among c s ≡ true) (sym first.class) d.0, first.whole);
    }
by_class (sequence g h) known v xs ys d us e =
    let each = both (is_by_class g) (is_by_class h) known in
    let a = by_class g each.0 v.0 xs d.0 d.1 us e in
    let b = by_class h each.1 v.1 d.0 ys d.2 a.rest a.same in
    record { value = (a.value, b.value); rest = b.rest; same = b.same; derived = (a.rest, a.derived, b.derived) }
by_class (choice g h) known v xs ys (inl d) us e =
    let a = by_class g (both (is_by_class g) (is_by_class h) known).0 v xs ys d us e in
    record { value = a.value; rest = a.rest; same = a.same; derived = inl a.derived }
by_class (choice g h) known v xs ys (inr d) us e =
    let a = by_class h (both (is_by_class g) (is_by_class h) known).1 v xs ys d us e in
    record { value = a.value; rest = a.rest; same = a.same; derived = inr a.derived }
by_class (mapped k g) known v xs ys d us e =
    let a = by_class g known d.0 xs ys d.2 us e in
    record { value = k a.value; rest = a.rest; same = a.same; derived = (a.value, refl, a.derived) }
by_class (node k g) known v xs ys d us e =
    let a = by_class g known d.0 xs ys d.2 us e in
    record {
      value = k a.value (span_between us a.rest);
      rest = a.rest;
      same = a.same;
      derived = (a.value, refl, a.derived);
    }
by_class (checked k g) known v xs ys d us e = absurd (true≢false (sym known))
by_class (symbol n) known v xs ys d us e = d known us e
by_class (left_chain k g h) known v xs ys d us e =
    let each = both (is_by_class g) (is_by_class h) known in
    chain_by_class k (by_class g each.0) (by_class h each.1) xs v ys d us e

no_fault : (a b : Bool) (x y : Fault) → a ≡ b → cond b (Some y) None ≡ None → cond a (Some x) None ≡ None
no_fault true true x y e h = absurd (cc)
no_fault true false x y e h = absurd (true≢false e)
no_fault false b x y e h = refl

rules : (n : Symbol) (v : Value n) (xs ys : List Token) → D n v xs ys → Means checking ByClass (written n) v xs ys
    → ByClass n v xs ys
rules ident v xs ys here d known us e =
    let first = first_of us v.class (classes ys) (e ∙ ap classes d.1.1) in
    record {
      value = first.token;
      rest = first.rest;
      same = first.classes_after;
      derived = roll checking written ident first.token us first.rest (
        no_fault (eqb first.token.class ReservedWord) (eqb v.class ReservedWord) _ _
            (ap (λ (c : ℕ). eqb c ReservedWord) first.class) d.0,
        (subst (λ (c : ℕ). is_among c (Ident ∷ ReservedWord ∷ []) ≡ true) (sym first.class) d.1.0, first.whole),
      );
    }
rules n v xs ys here d known us e =
    let a = by_class (written n) (rule_by_class n known) v xs ys d us e in
    record {
      value = a.value;
      rest = a.rest;
      same = a.same;
      derived = roll checking written n a.value us a.rest a.derived;
    }

none_left : (ts : List Token) → classes ts ≡ [] → ts ≡ []
none_left [] e = refl
none_left (t ∷ ts) e = absurd (cc)

-- tokens of the classes of a list of expressions are one
pub list_by_class : (ts us : List Token) → classes us ≡ classes ts → IsList ts → IsList us
list_by_class ts us e (v, d) =
    let a = by_derivation ByClass rules expressions v ts [] d refl us e in
    (a.value, subst (λ (rest : List Token). D expressions a.value us rest) (none_left a.rest a.same) a.derived)
