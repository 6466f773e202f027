-- What is left after a symbol of expressions is what is left after its right side, and the
-- classes of the tokens tell it.
use Rattle.std.proofs.Common.{◌≡◌, ℕ, zero, suc, ◌+◌, ◌*◌, ◌<◌, Bool, true, false, cond, not, ◌||◌, eqb, List, [], ◌∷◌, length, map, ◌⊎◌, inl, inr, refl, sym, ap, subst, ◌∙◌, arith}
use Rattle.std.specs.Prelude.{Option, Some, None}
use Rattle.std.proofs.lemmas.List.{length-map}
use Rattle.std.proofs.lemmas.Bool.Decides.{eqb_tells}
use Rattle.grammar.specs.Tokens.{Token, Fault, span_between}
use Rattle.grammar.specs.Grammar.{Grammar.symbol, Mode.checking, is_among, Means, Part}
use Rattle.grammar.specs.Tables.{nullable, first, decides}
use Rattle.grammar.specs.Reading.{Outcome, Outcome.ok, Outcome.stuck, Outcome.bad, Outcome.out, bind, judge, run, read, read_all}
use Rattle.grammar.proofs.Reading.Beginnings.{pick, begins, begins_within}
use Rattle.grammar.proofs.Reading.Sets.{clash}
use Rattle.grammar.proofs.Reading.Sound.{of_ok, sound, sound_read}
use Rattle.grammar.proofs.Reading.Step.{sane, step}
use Rattle.wgsl_model.specs.Tokens.ClassTable.{Ident, ReservedWord}
use Rattle.wgsl_model.specs.Grammar.Checks.{unreserved}
use Rattle.wgsl_model.specs.Grammar.Symbols.{Symbol.ident, Symbol.type_specifier, Symbol.template_list, Symbol.expressions, Symbol.arguments, Symbol.literal, Symbol.primary_expression, Symbol.singular_expression, Symbol.component, Symbol.unary_expression, Symbol.multiplicative_expression, Symbol.negated_expression, Symbol.shift_expression, Symbol.relational_expression, Symbol.expression}
use Rattle.wgsl_theory_grammar.specs.Factored.{Further.template_items, Further.template_rest, Further.template_more, Further.argument_rest, Further.argument_more, Further.components, Further.factors, Further.summands, Further.sum_rest, Further.relation_rest, Further.and_rest, Further.or_rest, Further.bitwise_and_rest, Further.bitwise_or_rest, Further.bitwise_xor_rest, Further.expression_rest, FactoredSymbol, FactoredSymbol.of, FactoredSymbol.further, FactoredValue, FactoredRule, body}
use Rattle.wgsl_theory_grammar.specs.Tables.{rank_limit, tables}
use Rattle.wgsl_theory_grammar.proofs.Passes.{passes}
use Rattle.wgsl_lex_templates.specs.ExpressionLists.{classes_of}
use Rattle.wgsl_lex_templates.specs.Advancing.{token_of_class, classes_left, advances, is_next, take}
use Rattle.wgsl_lex_templates.proofs.Advancing.Repeats.{Shortens}
use Rattle.wgsl_lex_templates.proofs.Advancing.Walks.{walk, is_plain, next_is, run_is_walk}

-- the symbols of expressions
abbrev pub is_of_expressions : FactoredSymbol → Bool
is_of_expressions (of ident) = true
is_of_expressions (of type_specifier) = true
is_of_expressions (of template_list) = true
is_of_expressions (of expressions) = true
is_of_expressions (of arguments) = true
is_of_expressions (of literal) = true
is_of_expressions (of primary_expression) = true
is_of_expressions (of singular_expression) = true
is_of_expressions (of component) = true
is_of_expressions (of unary_expression) = true
is_of_expressions (of multiplicative_expression) = true
is_of_expressions (of negated_expression) = true
is_of_expressions (of shift_expression) = true
is_of_expressions (of relational_expression) = true
is_of_expressions (of expression) = true
is_of_expressions (of n) = false
is_of_expressions (further template_items) = true
is_of_expressions (further template_rest) = true
is_of_expressions (further template_more) = true
is_of_expressions (further argument_rest) = true
is_of_expressions (further argument_more) = true
is_of_expressions (further components) = true
is_of_expressions (further factors) = true
is_of_expressions (further summands) = true
is_of_expressions (further sum_rest) = true
is_of_expressions (further relation_rest) = true
is_of_expressions (further and_rest) = true
is_of_expressions (further or_rest) = true
is_of_expressions (further bitwise_and_rest) = true
is_of_expressions (further bitwise_or_rest) = true
is_of_expressions (further bitwise_xor_rest) = true
is_of_expressions (further expression_rest) = true
is_of_expressions (further x) = false

-- a name aside, each has no check, and no symbols but these
plain_or_name : (n : FactoredSymbol)
    → (n ≡ of ident) ⊎ ((not (is_of_expressions n) || is_plain is_of_expressions (body n)) ≡ true)
plain_or_name (of ident) = inl refl
plain_or_name (of n) = inr refl
plain_or_name (further components) = inr refl
plain_or_name (further x) = inr refl

implied : (a b : Bool) → a ≡ true → (not a || b) ≡ true → b ≡ true
implied true b e h = h
implied false b e h = absurd cc

-- ---- a name
left_checked : (b : Bool) (t : Token) (ts us : List Token) (F : Token → List Token → Outcome Token)
    → classes_left (bind (pick b (ok t ts) (stuck us)) F) ≡ cond b (classes_left (F t ts)) None
left_checked true t ts us F = refl
left_checked false t ts us F = refl

left_judged : (b : Bool) (x : Fault) (t : Token) (ts : List Token)
    → classes_left (judge (cond b (Some x) None) t ts) ≡ cond b None (Some (classes_of ts))
left_judged true x t ts = refl
left_judged false x t ts = refl

one_of_two : (a b : Bool) (x : Option (List ℕ)) → (a ≡ true → b ≡ false)
    → cond (cond a true (cond b true false)) (cond b None x) None ≡ cond a x None
one_of_two true b x h = ap (λ (z : Bool). cond z None x) (h refl)
one_of_two false true x h = refl
one_of_two false false x h = refl

not_reserved : (c : ℕ) → eqb c Ident ≡ true → eqb c ReservedWord ≡ false
not_reserved c e =
    elim (eqb_tells c Ident) [ inl p ↦ ap (λ (z : ℕ). eqb z ReservedWord) p.1 | inr p ↦ absurd (let q = p.0 in cc) ]

name_is : (read : (n : FactoredSymbol) → List Token → Outcome (FactoredValue n)) (ts : List Token)
    → classes_left (run tables checking read (body (of ident)) ts) ≡ take Ident (classes_of ts)
unfolding take
name_is read [] = refl
name_is read (t ∷ ts) =
    left_checked (is_among t.class (Ident ∷ ReservedWord ∷ [])) t ts (t ∷ ts)
    (λ a us. judge (unreserved a (span_between (t ∷ ts) us)) a us)
    ∙ ap (λ (z : Option (List ℕ)). cond (is_among t.class (Ident ∷ ReservedWord ∷ [])) z None)
    (left_judged (eqb t.class ReservedWord) _ t ts)
    ∙ one_of_two (eqb t.class Ident) (eqb t.class ReservedWord) (Some (classes_of ts)) (not_reserved t.class)

-- ---- tokens of the same classes
pub bare_classes : (cs : List ℕ) → classes_of (map token_of_class cs) ≡ cs
bare_classes [] = refl
bare_classes (c ∷ cs) = ap (λ (z : List ℕ). c ∷ z) (bare_classes cs)

read_by_classes : (k : ℕ) (n : FactoredSymbol) → is_of_expressions n ≡ true → (ts : List Token)
    → classes_left (read tables checking body k n ts)
    ≡ classes_left (read tables checking body k n (map token_of_class (classes_of ts)))
read_by_classes zero n e ts = refl
read_by_classes (suc k) n e ts =
    let same = sym (bare_classes (classes_of ts)) in
    elim (plain_or_name n) [
      | inl i ↦ subst (λ (m : FactoredSymbol). classes_left (read tables checking body (suc k) m ts)
          ≡ classes_left (read tables checking body (suc k) m (map token_of_class (classes_of ts)))) (sym i)
          (name_is (read tables checking body k) ts ∙ ap (take Ident) same
          ∙ sym (name_is (read tables checking body k) (map token_of_class (classes_of ts))))
      | inr p ↦
          (let walked = run_is_walk is_of_expressions (read tables checking body k)
          (λ m cs. classes_left (read tables checking body k m (map token_of_class cs)))
          (read_by_classes k) (body n) (implied _ _ e p) in
          walked ts ∙ ap (walk (λ m cs. classes_left (read tables checking body k m (map token_of_class cs)))
          (body n)) same ∙ sym (walked (map token_of_class (classes_of ts))))
    ]

pub read_advances : (n : FactoredSymbol) → is_of_expressions n ≡ true → (ts : List Token)
    → classes_left (read_all tables checking body rank_limit n ts) ≡ advances n (classes_of ts)
unfolding advances
read_advances n e ts =
    let lengths : length ts ≡ length (map token_of_class (classes_of ts)) =
    sym (length-map (classes_of ts) token_of_class ∙ length-map ts (λ (t : Token). t.class)) in
    read_by_classes (rank_limit * length ts + suc (tables.rank n)) n e ts
    ∙ ap (λ (l : ℕ). classes_left (read tables checking body
    (rank_limit * l + suc (tables.rank n)) n (map token_of_class (classes_of ts)))) lengths

-- ---- a symbol and its right side
pub rule_is : (n : FactoredSymbol) → is_of_expressions n ≡ true → is_plain is_of_expressions (body n) ≡ true
    → (cs : List ℕ) → advances n cs ≡ walk advances (body n) cs
rule_is n e p cs =
    ap (advances n) (sym (bare_classes cs)) ∙ sym (read_advances n e (map token_of_class cs))
    ∙ ap (λ (m : Outcome (FactoredValue n)). classes_left m)
    (step tables checking body rank_limit passes n (map token_of_class cs))
    ∙ run_is_walk is_of_expressions (read_all tables checking body rank_limit) advances read_advances
    (body n) p (map token_of_class cs)
    ∙ ap (walk advances (body n)) (bare_classes cs)

pub ident_is : (cs : List ℕ) → advances (of ident) cs ≡ take Ident cs
ident_is cs =
    ap (advances (of ident)) (sym (bare_classes cs))
    ∙ sym (read_advances (of ident) refl (map token_of_class cs))
    ∙ ap (λ (m : Outcome Token). classes_left m)
    (step tables checking body rank_limit passes (of ident) (map token_of_class cs))
    ∙ name_is (read_all tables checking body rank_limit) (map token_of_class cs)
    ∙ ap (take Ident) (bare_classes cs)

-- ---- what a part takes
pub left_some : {A : Type 0} (m : Outcome A) (ds : List ℕ) → classes_left m ≡ Some ds
    → (a : A) × (us : List Token) × (m ≡ ok a us) × (classes_of us ≡ ds)
left_some (ok a us) ds e = (a, us, refl, cc)
left_some (stuck us) ds e = absurd cc
left_some (bad x us) ds e = absurd cc
left_some out ds e = absurd cc

-- it takes no token, or begins with a token of its classes and takes one at least
pub takes : {A : Type 0} (g : FactoredRule A) → is_plain is_of_expressions g ≡ true
    → decides tables g ≡ true → (cs ds : List ℕ) → walk advances g cs ≡ Some ds
    → ((nullable tables g ≡ true) × (cs ≡ ds)) ⊎ ((is_next (first tables g) cs ≡ true) × (length ds < length cs))
takes {A} g p l cs ds e =
    let ts = map token_of_class cs in
    let m = run tables checking (read_all tables checking body rank_limit) g ts in
    let o = left_some m ds (run_is_walk is_of_expressions (read_all tables checking body rank_limit)
    advances read_advances g p ts ∙ ap (walk advances g) (bare_classes cs) ∙ e) in
    let d = of_ok (λ a us. Means checking (Part checking body) g a ts us) m o.0 o.1
    (sound tables checking (Part checking body) (read_all tables checking body rank_limit) (λ n us.
    sound_read tables checking body (rank_limit * length us + suc (tables.rank n)) n us) g ts) o.2 in
    elim (begins tables checking (Part checking body) (λ n v xs ys w. begins_within tables checking
    body (sane tables body rank_limit passes) w.0 n v xs ys w.1) g l o.0 ts o.1 d) [
      | inl b ↦ inl (b.0, sym (bare_classes cs) ∙ ap classes_of b.1 ∙ o.3)
      | inr b ↦
          (let shorter : length o.1 < length ts = b.1 in
          let left : length ds ≡ length o.1 = sym (ap (λ (z : List ℕ). length z) o.3)
          ∙ length-map o.1 (λ (t : Token). t.class) in
          let all : length ts ≡ length cs = length-map cs token_of_class in
          inr (
            sym (next_is (first tables g) ts ∙ ap (is_next (first tables g)) (bare_classes cs)) ∙ b.0,
            omega (arith, shorter, left, all),
          ))
    ]

pub shortens : {A : Type 0} (g : FactoredRule A) → is_plain is_of_expressions g ≡ true
    → decides tables g ≡ true → nullable tables g ≡ false → Shortens (walk advances g)
shortens g p l n cs ds e = elim (takes g p l cs ds e) [ inl b ↦ clash (nullable tables g) b.0 n | inr b ↦ b.1 ]

-- where no token of its classes is next there is nothing
pub none_begins : (n : FactoredSymbol) → is_of_expressions n ≡ true → tables.empty n ≡ false
    → (cs : List ℕ) → is_next (tables.first n) cs ≡ false → advances n cs ≡ None
none_begins n k e cs h = none (advances n cs) (λ ds f. elim (takes (symbol n) k refl cs ds f) [
  | inl b ↦ clash (tables.empty n) b.0 e
  | inr b ↦ clash (is_next (tables.first n) cs) b.0 h
])
  where
    none : (m : Option (List ℕ)) → ((ds : List ℕ) → m ≡ Some ds → ⊥) → m ≡ None
    none None h = refl
    none (Some ds) h = absurd (h ds refl)
