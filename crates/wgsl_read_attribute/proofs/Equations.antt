-- What attributes and their parts read.
use Rattle.std.proofs.Common.{◌≡◌, ℕ, Bool, true, false, cond, List, [], ◌∷◌, refl, ap, ◌∙◌}
use Rattle.grammar.specs.Tokens as plain
use Rattle.grammar.specs.Grammar.{Grammar.symbol}
use Rattle.grammar.specs.Notation.{◌gives◌}
use Rattle.grammar.specs.States.{State, Read, done, stop, ◌>>=◌, refused_at, refused, is_at, first_of, after, take, next_start, judged, span_from}
use Rattle.grammar.proofs.States.{turns_are, shortens}
use Rattle.wgsl_model.specs.Tokens.ClassTable.{SymAttr}
use Rattle.wgsl_model.specs.Faults.Kinds.{invalid_attribute}
use Rattle.wgsl_model.specs.Trees.Spanned.{Spanned}
use Rattle.wgsl_model.specs.Trees.Attributes.{Attribute, Attributes, custom}
use Rattle.wgsl_model.specs.Grammar.TokenValues.{text_of}
use Rattle.wgsl_model.specs.Grammar.Checks.{Checked, right, wrong, fault_in, right_in, given_or, Arguments, AttributeParts, attribute_parts, attribute_of, attribute_fault, attribute_node}
use Rattle.wgsl_model.specs.Grammar.Symbols.{Symbol.attribute}
use Rattle.wgsl_theory_grammar.specs.Factored.{FactoredSymbol.of, FactoredSymbol.further, Further.attribute_list, body}
use Rattle.wgsl_theory_grammar.specs.Tables.{rank_limit, tables}
use Rattle.wgsl_theory_grammar.specs.Reader.{reader}
use Rattle.wgsl_theory_grammar.specs.StatementRules.{attribute_at, attribute_list_at}
use Rattle.wgsl_theory_grammar.proofs.Passes.{passes}
use Rattle.wgsl_theory_grammar.proofs.StatementEquations as theory
use Rattle.wgsl_read_cursor.specs.Words.{attribute_name_at}
use Rattle.wgsl_read_attribute.specs.Known.{checked_attribute}
use Rattle.wgsl_read_attribute.specs.Settles.{settled}
use Rattle.wgsl_read_attribute.specs.Rules.{optional_arguments_at, attribute_parts_at, attribute_node_at, attributes_from, attributes_turn}

abbrev paired : {A B : Type 0} → A → B → State → Read (A × B)
paired a b s = done (a, b) s

abbrev second : {A B : Type 0} → A × B → State → Read B
second p s = done p.1 s

-- `@`, then a name, then arguments or nothing
pub attribute_parts_is : (s : State) → attribute_parts_at s
    ≡ ((take SymAttr s >>= λ t s1. ((attribute_name_at s1
    >>= λ name s2. (optional_arguments_at s2 >>= paired name)) >>= paired t)) >>= second)
unfolding attribute_parts_at attribute_name_at optional_arguments_at
attribute_parts_is s = refl

after_taken : (b : Bool) (left following s' : State) (t u : plain.Token)
    → cond b (done t following) (refused left) ≡ done u s' → following ≡ s'
after_taken true left following s' t u h = cc
after_taken false left following s' t u h = absurd (none_taken left.end left.rest s' u h)
  where
    none_taken : (end : ℕ) (ts : List plain.Token) (s' : State) (u : plain.Token) → refused_at end ts ≡ done u s' → ⊥
    none_taken end [] s' u h = cc
    none_taken end (t ∷ ts) s' u h = cc

-- what is left after a token that was taken
pub taken_is : (c : ℕ) (s s' : State) (t : plain.Token) → take c s ≡ done t s' → after s ≡ s'
unfolding take
taken_is c s s' t h = after_taken (is_at c s) s (after s) s' (first_of s) t h

-- a value is kept where its check is right, and else there is the fault
judged_is : {A B P : Type 0} (checked : Checked A) (fault : List ℕ → plain.Fault) (p : P)
    (kept : P → B) (made : A → B) (s : State) → ((a : A) → checked ≡ right a → kept p ≡ made a)
    → (judged (fault_in checked fault) p s >>= λ q s'. done (kept q) s') ≡ settled checked fault made s
judged_is (right a) fault p kept made s h = ap (λ b. done b s) (h a refl)
judged_is (wrong text) fault p kept made s h = refl

-- an attribute where its check is right
settled_attribute : ℕ → plain.Token × Arguments → State → Read (Spanned Attribute)
settled_attribute start p s =
    settled (checked_attribute (text_of p.0) p.1)
    (λ text. invalid_attribute (text_of p.0) text (span_from start s))
    (λ a. record { node = a; span = span_from start s }) s

checked_is : (start : ℕ) (parts : Read (plain.Token × Arguments))
    → (((parts >>= λ p s. done (attribute_parts p (span_from start s)) s) >>= λ a s. judged (attribute_fault a
    (span_from start s)) a s) >>= λ a s. done (attribute_node a) s) ≡ (parts >>= settled_attribute start)
unfolding settled_attribute checked_attribute
checked_is start (done p s) =
    let parts = attribute_parts p (span_from start s) in
    judged_is (attribute_of parts.node) (λ text. invalid_attribute (text_of p.0) text (span_from start s))
    parts attribute_node (λ a. record { node = a; span = span_from start s }) s
    (λ a e. ap (λ (checked : Checked Attribute). record {
      node = given_or (custom (record { name = parts.node.name; arguments = parts.node.arguments }))
          (right_in checked);
      span = parts.span;
    }) e)
checked_is start (stop e) = refl

-- an attribute: its parts, checked
pub attribute_node_is : (s : State) → attribute_node_at s
    ≡ (attribute_parts_at s >>= λ p s'. settled (checked_attribute (text_of p.0) p.1)
    (λ text. invalid_attribute (text_of p.0) text (span_from (next_start s) s'))
    (λ a. record { node = a; span = span_from (next_start s) s' }) s')
unfolding attribute_node_at attribute_at attribute_parts_at settled_attribute
attribute_node_is s = ap (λ (m : Read (Spanned AttributeParts)). m >>= λ a s'. done (attribute_node a) s')
    (theory.attribute_is s) ∙ checked_is (next_start s) (attribute_parts_at s)

-- attributes are read from none on
pub attribute_list_is : (s : State) → reader (further attribute_list) s ≡ attributes_from (next_start s) [] s
unfolding attribute_list_at attributes_from attribute_node_at
attribute_list_is s = theory.attribute_list_is s

-- one attribute more, where the next token is `@`
pub attributes_are : (start : ℕ) (attributes : Attributes) (s : State)
    → attributes_from start attributes s ≡ attributes_turn start attributes s
unfolding attributes_from attributes_turn attribute_node_at reader
attributes_are start attributes s = turns_are _ _ _ (shortens tables body rank_limit passes
    (symbol (of attribute) gives attribute_node) refl refl refl) start attributes s
