-- The four checked symbols are apart, and what is read of them is what is faulty.
use Rattle.std.proofs.Common.{◌≡◌, ℕ, zero, suc, true, false, eqb, List, [], ◌∷◌, inl, inr, refl, sym, ap, subst, ◌∙◌}
use Rattle.std.specs.Prelude.{Option, Some, None}
use Rattle.grammar.specs.Tokens.{Payload.nothing, Token, Span, Fault, span_between}
use Rattle.grammar.specs.Grammar.{Grammar.token, Grammar.sequence, Grammar.symbol, Mode.unchecked, is_among, Means, Part, IsViable}
use Rattle.grammar.specs.Faults.{IsFaulty, IsEnded}
use Rattle.grammar.specs.Reading.{Outcome.ok, chooses, read}
use Rattle.grammar.specs.Notation.{optional}
use Rattle.wgsl_model.specs.Tokens.ClassTable.{SymAttr, SymParenLeft, SymParenRight, KwDiagnostic, KwVar, Ident, ReservedWord, TemplateArgsStart}
use Rattle.wgsl_model.specs.Faults.Kinds.{reserved_word}
use Rattle.wgsl_model.specs.Trees.Spanned.{Spanned}
use Rattle.wgsl_model.specs.Trees.Expressions.{ExpressionNode}
use Rattle.wgsl_model.specs.Grammar.TokenValues.{text_of}
use Rattle.wgsl_model.specs.Grammar.Checks.{unreserved, Arguments, AttributeParts, attribute_parts}
use Rattle.wgsl_model.specs.Grammar.Written.{keyword_classes}
use Rattle.wgsl_model.specs.Grammar.Symbols.{Dialect.parsed, Symbol.ident, Symbol.template_list, Symbol.arguments, Symbol.attribute, Symbol.var_template, Symbol.diagnostic_severity}
use Rattle.wgsl_theory_grammar.specs.Factored.{Further.template_items, Further.argument_rest, FactoredSymbol, FactoredSymbol.of, FactoredSymbol.further, FactoredValue, FactoredRule, body, small_body}
use Rattle.wgsl_theory_grammar.specs.Apart.{apart, nowhere}
use Rattle.wgsl_theory_grammar.specs.Tables.{firsts, heights, rank_limit, tables}
use Rattle.grammar.proofs.Reading.Sets.{cases}
use Rattle.grammar.proofs.Reading.Beginnings.{cond_yes, cond_no}
use Rattle.grammar.proofs.Reading.Complete.{OrOut, or_bind, reads_token, reads_sequence}
use Rattle.grammar.proofs.Reading.Depth.{roll, unroll}
use Rattle.grammar.proofs.Faults.First.{Guarded, IsGuarded}
use Rattle.grammar.proofs.Faults.Guards.{faulty_chosen, guarded_alone, Closed, reads_end, closed_end}
use Rattle.grammar.proofs.Words.{all_parts}
use Rattle.wgsl_theory_grammar.proofs.Passes.{builds_hold, passes, ident_anchored, severity_anchored, attribute_anchored, var_anchored}

-- ---- names
-- a name that is a fault is a reserved word
pub reserved_class : (t : Token) (s : Span) (x : Fault) → unreserved t s ≡ Some x
    → is_among t.class (ReservedWord ∷ []) ≡ true
reserved_class t s x e = elim (cases (eqb t.class ReservedWord)) [
  | inl y ↦ cond_yes (eqb t.class ReservedWord) true false y
  | inr y ↦ let q = cond_no {A = Option Fault} (eqb t.class ReservedWord)
      (Some (reserved_word (text_of t) s)) None y in absurd cc
]

names_start : (x : Fault) (xs ys : List Token) → IsFaulty body (of ident) x xs ys
    → chooses (ReservedWord ∷ []) xs ≡ true
names_start x xs ys (v, d, e) =
    let u = unroll unchecked body (of ident) v xs ys d in
    subst (λ (z : List Token). chooses (ReservedWord ∷ []) z ≡ true) (sym u.1.1)
    (reserved_class v (span_between xs ys) x e)

idents_guarded : Guarded tables body apart (of ident)
idents_guarded = guarded_alone tables body rank_limit passes apart (of ident) refl refl
    (ReservedWord ∷ []) ident_anchored names_start

-- ---- `diagnostic` `(` and a name
severities_guarded : Guarded tables body apart (of diagnostic_severity)
severities_guarded = guarded_alone tables body rank_limit passes apart
    (of diagnostic_severity) refl refl (KwDiagnostic ∷ []) severity_anchored
    (faulty_chosen tables body rank_limit passes (of diagnostic_severity) refl)

-- ---- attributes
abbrev attribute_names : List ℕ
attribute_names = Ident ∷ ReservedWord ∷ keyword_classes

abbrev Parenthesized : Type 0
Parenthesized = Spanned AttributeParts

abbrev ends_with : (m : FactoredSymbol) → FactoredRule (Option (FactoredValue m))
ends_with m = optional (symbol m)

abbrev a_token : ℕ → Token
a_token c = record { class = c; payload = nothing; start = 0; end = 0 }

-- a `(` after `@` and a name goes on
opened : (a b t : Token) → is_among a.class (SymAttr ∷ []) ≡ true → is_among b.class attribute_names ≡ true
    → is_among t.class (SymParenLeft ∷ []) ≡ true → IsViable body (of attribute) (a ∷ b ∷ t ∷ [])
opened a b t p q r =
    let close : Token = a_token SymParenRight in
    let n : List ExpressionNode = [] in
    let h : Token × List ExpressionNode = (t, n) in
    let last : Part unchecked body (further argument_rest) n (close ∷ []) [] = roll unchecked body
    (further argument_rest) n (close ∷ []) [] (inl (close, refl, (refl, refl))) in
    let inside : Part unchecked body (of arguments) n (t ∷ close ∷ []) [] = roll unchecked body
    (of arguments) n (t ∷ close ∷ []) [] (h, refl, (close ∷ [], (r, refl), last)) in
    let whole : List Token = a ∷ b ∷ t ∷ close ∷ [] in
    let o : Arguments = Some n in
    let y : Token × Arguments = (b, o) in
    let x : Token × (Token × Arguments) = (a, y) in
    let v : Parenthesized = attribute_parts y (span_between whole []) in (
      close ∷ [],
      (
        v,
        roll unchecked body (of attribute) v whole [] (
          refl,
          (y, refl, (x, refl, (b ∷ t ∷ close ∷ [], (p, refl), (t ∷ close ∷ [], (q, refl), inl (n, refl, inside))))),
        ),
      ),
    )

-- what the rule says of an attribute
abbrev AttributeIs : Parenthesized → List Token → List Token → Type 0
AttributeIs v xs ys = Means unchecked (Part unchecked body) (body (of attribute)) v xs ys

-- an attribute that goes no further has arguments, or no `(` after it
pub attribute_closed : (v : Parenthesized) (xs ys : List Token) → AttributeIs v xs ys
    → IsEnded body (of attribute) xs ys → Closed (firsts (of arguments)) v.node.arguments ys
attribute_closed v xs ys (c, (p, e, (q, g, (ms, (m1, e1), (us, (m2, e2), m))))) i =
    let s : q.1.1 ≡ v.node.arguments = ap (λ (z : Token × Arguments). z.1) g
    ∙ ap (λ (z : Parenthesized). z.node.arguments) e in
    subst (λ (z : Arguments). Closed (firsts (of arguments)) z ys) s
    (closed_end tables body (of arguments) (of attribute) q.1.1 (q.0 ∷ q.1.0 ∷ []) us xs ys
    (e1 ∙ ap (λ (z : List Token). q.0 ∷ z) e2) m (λ t r. opened q.0 q.1.0 t m1 m2 r) i)

-- and so it is read
pub attribute_read : (v : Parenthesized) (xs ys : List Token) → AttributeIs v xs ys
    → Closed (firsts (of arguments)) v.node.arguments ys → (k : ℕ)
    → OrOut (read tables unchecked body k (of attribute) xs) v ys
attribute_read v xs ys d i zero = inr refl
attribute_read v xs ys (c, (p, e, (q, g, (ms, (m1, e1), (us, (m2, e2), m))))) i (suc k) =
    let s : q.1.1 ≡ v.node.arguments = ap (λ (z : Token × Arguments). z.1) g
    ∙ ap (λ (z : Parenthesized). z.node.arguments) e in
    let inside = reads_sequence tables unchecked (read tables unchecked body k)
    (token (SymAttr ∷ [])) (sequence (token attribute_names) (ends_with (of arguments))) q xs ms ys
    (reads_token (SymAttr ∷ []) q.0 xs ms m1 e1)
    (reads_sequence tables unchecked (read tables unchecked body k) (token attribute_names)
    (ends_with (of arguments)) q.1 ms us ys
    (reads_token attribute_names q.1.0 ms us m2 e2) (reads_end tables body rank_limit passes (of arguments) refl
    refl q.1.1 us ys m (subst (λ (z : Arguments). Closed (firsts (of arguments)) z ys) (sym s) i) k)) in
    or_bind _ _ v ys v ys (or_bind _ _ p ys v ys (or_bind _ _ q ys p ys inside
    (inl (ap (λ (z : Token × Arguments). ok z ys) g))) (inl (ap (λ (z : Parenthesized). ok z ys) e)))
    (inl refl)

reads_attribute : (v : Parenthesized) (xs ys : List Token)
    → Part unchecked body (of attribute) v xs ys → IsEnded body (of attribute) xs ys → (k : ℕ)
    → OrOut (read tables unchecked body k (of attribute) xs) v ys
reads_attribute v xs ys d i k =
    let u = unroll unchecked body (of attribute) v xs ys d in attribute_read v xs ys u
    (attribute_closed v xs ys u i) k

attributes_guarded : Guarded tables body apart (of attribute)
attributes_guarded = record {
  anchor = SymAttr ∷ [];
  anchored = attribute_anchored;
  nonempty = refl;
  starts = faulty_chosen tables body rank_limit passes (of attribute) refl;
  reads = reads_attribute;
}

-- ---- `var` and its template
-- the `<` of a template after `var` goes on
var_opened : (a t : Token) → is_among a.class (KwVar ∷ []) ≡ true
    → is_among t.class (TemplateArgsStart ∷ []) ≡ true → IsViable body (of var_template) (a ∷ t ∷ [])
var_opened a t p r =
    let w = all_parts heights body (builds_hold parsed) (further template_items) [] in
    let n : List ExpressionNode = w.1 in
    let h : Token × List ExpressionNode = (t, n) in
    let inside : Part unchecked body (of template_list) n (t ∷ w.0) [] = roll unchecked body
    (of template_list) n (t ∷ w.0) [] (h, refl, (w.0, (r, refl), w.2)) in
    let o : Option (List ExpressionNode) = Some n in
    let x : Token × Option (List ExpressionNode) = (a, o) in (
      w.0,
      (
        o,
        roll unchecked body (of var_template) o (a ∷ t ∷ w.0) []
            (refl, (x, refl, (t ∷ w.0, (p, refl), inl (n, refl, inside)))),
      ),
    )

abbrev Template : Type 0
Template = Option (List ExpressionNode)

abbrev VarIs : Template → List Token → List Token → Type 0
VarIs v xs ys = Means unchecked (Part unchecked body) (body (of var_template)) v xs ys

-- `var` that goes no further has a template, or none can begin
pub var_closed : (v : Template) (xs ys : List Token) → VarIs v xs ys
    → IsEnded body (of var_template) xs ys → Closed (firsts (of template_list)) v ys
var_closed v xs ys (c, (q, g, (us, (m1, e1), m))) i =
    subst (λ (z : Template). Closed (firsts (of template_list)) z ys) g
    (closed_end tables body (of template_list) (of var_template) q.1 (q.0 ∷ []) us xs ys e1 m
    (λ t r. var_opened q.0 t m1 r) i)

pub var_read : (v : Template) (xs ys : List Token) → VarIs v xs ys → Closed (firsts (of template_list)) v ys
    → (k : ℕ) → OrOut (read tables unchecked body k (of var_template) xs) v ys
var_read v xs ys d i zero = inr refl
var_read v xs ys (c, (q, g, (us, (m1, e1), m))) i (suc k) =
    let inside = reads_sequence tables unchecked (read tables unchecked body k) (token (KwVar ∷ []))
    (ends_with (of template_list)) q xs us ys
    (reads_token (KwVar ∷ []) q.0 xs us m1 e1)
    (reads_end tables body rank_limit passes (of template_list) refl refl q.1 us ys m
    (subst (λ (z : Template). Closed (firsts (of template_list)) z ys) (sym g) i) k) in
    or_bind _ _ v ys v ys (or_bind _ _ q ys v ys inside (inl (ap (λ (z : Template). ok z ys) g))) (inl refl)

reads_var : (v : Template) (xs ys : List Token) → Part unchecked body (of var_template) v xs ys
    → IsEnded body (of var_template) xs ys → (k : ℕ)
    → OrOut (read tables unchecked body k (of var_template) xs) v ys
reads_var v xs ys d i k =
    let u = unroll unchecked body (of var_template) v xs ys d in var_read v xs ys u
    (var_closed v xs ys u i) k

vars_guarded : Guarded tables body apart (of var_template)
vars_guarded = record {
  anchor = KwVar ∷ [];
  anchored = var_anchored;
  nonempty = refl;
  starts = faulty_chosen tables body rank_limit passes (of var_template) refl;
  reads = reads_var;
}

-- ---- all symbols: each has no check, or is one of the four
pub guarded : IsGuarded tables body apart
guarded (of ident) = inr idents_guarded
guarded (of attribute) = inr attributes_guarded
guarded (of diagnostic_severity) = inr severities_guarded
guarded (of var_template) = inr vars_guarded
guarded (of n) = inl (λ v s. refl)
guarded (further template_items) = inl (λ v s. refl)
guarded (further x) = inl (λ v s. refl)

pub small_guarded : IsGuarded tables small_body nowhere
small_guarded (of ident) = inl (λ v s. refl)
small_guarded (of n) = inl (λ v s. refl)
small_guarded (further template_items) = inl (λ v s. refl)
small_guarded (further x) = inl (λ v s. refl)
