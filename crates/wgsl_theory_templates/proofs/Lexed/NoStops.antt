-- A list of expressions holds no token that stops the search for the end of a template list.
use Rattle.std.proofs.Common.{◌≡◌, ℕ, Bool, true, false, not, ◌||◌, List, [], ◌∷◌, map, refl, sym, subst, ◌∙◌, append-nil}
use Rattle.grammar.specs.Tokens.{Token}
use Rattle.grammar.specs.Grammar.{Mode.checking, Derives}
use Rattle.grammar.proofs.Reading.Sets.{not_true}
use Rattle.wgsl_model.specs.Tokens.Kind.{Kind}
use Rattle.wgsl_model.specs.Trees.Expressions.{ExpressionNode}
use Rattle.wgsl_model.specs.Grammar.Symbols.{Symbol, Symbol.ident, Symbol.expressions}
use Rattle.wgsl_model.specs.Grammar.Written.{written}
use Rattle.wgsl_theory_grammar.proofs.Faults.WrittenEnds.{in_expression}
use Rattle.wgsl_theory_grammar.proofs.Faults.Avoids.{AllOf, ClassTest, takes_only}
use Rattle.wgsl_theory_grammar.proofs.Tokens.Classes.{all_pass, passes_on}
use Rattle.wgsl_theory_grammar.proofs.Tokens.CheckedRules.{checked_rule, expression_takes}
use Rattle.wgsl_theory_reread.specs.CanonicalUnits.{without_place}
use Rattle.wgsl_theory_templates.proofs.Reaching.Reach.{Role, Role.keyword, Role.greater_stop, Role.stop, role}

-- what no list of expressions holds
abbrev pub is_stop_role : Role → Bool
is_stop_role keyword = true
is_stop_role greater_stop = true
is_stop_role stop = true
is_stop_role r = false

abbrev pub NoStop : List Kind → Type 0
NoStop [] = Unit {0}
NoStop (k ∷ ks) = (is_stop_role (role k.class) ≡ false) × NoStop ks

-- a list of classes that are none of these
abbrev goes_by : ClassTest (λ (c : ℕ). is_stop_role (role c) ≡ false)
goes_by = record {
  test = all_pass (λ c. not (is_stop_role (role c)));
  passed = λ c s e m. not_true (is_stop_role (role c)) (passes_on (λ d. not (is_stop_role (role d))) c s e m);
}

all_go_by : (n : Symbol) → (not (in_expression n)
    || takes_only (all_pass (λ c. not (is_stop_role (role c)))) in_expression (checked_rule n)) ≡ true
all_go_by ident = refl
all_go_by n = refl

none_stops : (p : List Token) → AllOf (λ (t : Token). is_stop_role (role t.class) ≡ false) p
    → NoStop (map without_place p)
none_stops [] h = tt
none_stops (t ∷ p) h = (h.0, none_stops p h.1)

pub no_stops : (v : List ExpressionNode) (ts : List Token)
    → Derives checking written expressions v ts → NoStop (map without_place ts)
no_stops v ts d =
    let w = expression_takes goes_by all_go_by expressions refl v ts [] d in
    subst (λ (z : List Token). NoStop (map without_place z)) (sym (w.1 ∙ append-nil w.0)) (none_stops w.0 w.2)
