-- What is derived with attributes in fewer places, the grammar derives.
use Rattle.std.proofs.Common.{ℕ, inl, inr}
use Rattle.grammar.specs.Grammar.{Mode, Chain.base, Means, Part}
use Rattle.grammar.specs.Notation.{◌then◌, ◌or◌, ◌gives◌, ◌▹◌, ◌◃◌}
use Rattle.grammar.proofs.Reading.Depth.{Kept, roll, least}
use Rattle.wgsl_model.specs.Trees.Attributes.{Attributes}
use Rattle.wgsl_model.specs.Grammar.StatementParts.{leading, left_side}
use Rattle.wgsl_model.specs.Grammar.Symbols.{Dialect.parsed, Dialect.recognized, Symbol, return_statement, call_statement, var_statement, value_statement, break_statement, continue_statement, discard_statement, assignment, phony_assignment, increment, decrement, const_assert, switch_clause, continuing_statement, const_declaration, alias_declaration, struct_declaration, enable_directive, requires_directive, diagnostic_directive, Rule}
use Rattle.wgsl_model.specs.Grammar.Written.{written}
use Rattle.wgsl_theory_grammar.specs.FewerAttributes.{fewer_attributes}
use Rattle.wgsl_theory_grammar.proofs.Forms.Lifted.{WrittenRelation}

-- what a right side derives, another does
record Keeps (M : Mode) (D : WrittenRelation) {A : Type 0} (g h : Rule A) : Type 0 where
  kept : Kept (Means M D g) (Means M D h)

module _ {M : Mode} {D : WrittenRelation} where
  same : {A : Type 0} {g : Rule A} → Keeps M D g g
  same = record { kept = λ v xs ys d. d }

  then_keeps : {A B : Type 0} {g h : Rule A} {k l : Rule B} → Keeps M D g h → Keeps M D k l
      → Keeps M D (g then k) (h then l)
  then_keeps G K = record { kept = λ v xs ys d. (d.0, G.kept v.0 xs d.0 d.1, K.kept v.1 d.0 ys d.2) }

  or_keeps : {A : Type 0} {g h k l : Rule A} → Keeps M D g h → Keeps M D k l → Keeps M D (g or k) (h or l)
  or_keeps {g} {h} {k} {l} G K = record { kept = go } where
    go : Kept (Means M D (g or k)) (Means M D (h or l))
    go v xs ys (inl d) = inl (G.kept v xs ys d)
    go v xs ys (inr d) = inr (K.kept v xs ys d)

  gives_keeps : {A B : Type 0} {g h : Rule A} {f : A → B} → Keeps M D g h → Keeps M D (g gives f) (h gives f)
  gives_keeps G = record { kept = λ v xs ys d. (d.0, d.1, G.kept d.0 xs ys d.2) }

  before_keeps : {A : Type 0} {c : ℕ} {g h : Rule A} → Keeps M D g h → Keeps M D (c ▹ g) (c ▹ h)
  before_keeps G = gives_keeps (then_keeps same G)

  after_keeps : {A : Type 0} {c : ℕ} {g h : Rule A} → Keeps M D g h → Keeps M D (g ◃ c) (h ◃ c)
  after_keeps G = gives_keeps (then_keeps G same)

  -- no attribute is a list of attributes
  leading_keeps : Keeps M D (leading recognized) (leading parsed)
  leading_keeps = record { kept = λ v xs ys d. base v ys d }

  led_keeps : {A B : Type 0} {f : Attributes × A → B} {g h : Rule A} → Keeps M D g h
      → Keeps M D (leading recognized then g gives f) (leading parsed then h gives f)
  led_keeps G = gives_keeps (then_keeps leading_keeps G)

  left_side_keeps : Keeps M D (left_side recognized) (left_side parsed)
  left_side_keeps = or_keeps (then_keeps leading_keeps same) same

  rule_keeps : (n : Symbol) → Keeps M D (fewer_attributes n) (written n)
  rule_keeps return_statement = led_keeps same
  rule_keeps call_statement = led_keeps same
  rule_keeps var_statement = led_keeps same
  rule_keeps value_statement = led_keeps same
  rule_keeps break_statement = led_keeps same
  rule_keeps continue_statement = led_keeps same
  rule_keeps discard_statement = led_keeps same
  rule_keeps assignment = gives_keeps (then_keeps left_side_keeps same)
  rule_keeps phony_assignment = led_keeps same
  rule_keeps increment = gives_keeps (after_keeps left_side_keeps)
  rule_keeps decrement = gives_keeps (after_keeps left_side_keeps)
  rule_keeps const_assert = led_keeps same
  rule_keeps switch_clause = led_keeps same
  rule_keeps continuing_statement = led_keeps (gives_keeps (before_keeps (then_keeps same
      (before_keeps (after_keeps (then_keeps same (or_keeps (gives_keeps (led_keeps same)) same)))))))
  rule_keeps const_declaration = led_keeps same
  rule_keeps alias_declaration = led_keeps same
  rule_keeps struct_declaration = led_keeps same
  rule_keeps enable_directive = led_keeps same
  rule_keeps requires_directive = led_keeps same
  rule_keeps diagnostic_directive = led_keeps same
  rule_keeps n = same

pub fewer_kept : (M : Mode) (n : Symbol) → Kept (Part M fewer_attributes n) (Part M written n)
fewer_kept M = least M fewer_attributes (Part M written)
    (λ n v xs ys d. roll M written n v xs ys ((rule_keeps {D = Part M written} n).kept v xs ys d))
