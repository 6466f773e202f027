-- What a token does, by its class.
use Rattle.std.proofs.Common.{◌≡◌, ◌⊎◌, ℕ, zero, suc, Bool, true, false, refl, sym, subst, inl, inr}
use Rattle.std.specs.Prelude.{if◌then◌else◌}
use Rattle.grammar.specs.Grammar.{is_among}
use Rattle.wgsl_model.specs.Tokens.Templates.{is_opening, is_closing, begins_with_greater, is_short_circuit}
use Rattle.wgsl_theory_grammar.specs.Tokens.Refuted.{in_no_expression}
use Rattle.wgsl_theory_grammar.proofs.Tokens.Classes.{goes_on_zero, goes_on_deeper}
use Rattle.wgsl_theory_templates.proofs.Swaps.Attempts.{IsTaken}
use Rattle.wgsl_lex_templates.specs.Roles.{turn, turn_by}
use Rattle.wgsl_lex_templates.specs.declared.roles.TemplateRole.TheVariants as role
use Rattle.wgsl_lex_templates.specs.declared.roles.Turn.{Turn}
use Rattle.wgsl_lex_templates.specs.declared.roles.Turn.TheVariants as turn

-- what is known of a token that does this
abbrev pub IsTurn : ℕ → ℕ → Turn → Type 0
IsTurn depth class turn.Ends = (depth ≡ 0) × (begins_with_greater class ≡ true)
IsTurn depth class turn.Stops = (depth ≡ 0) × ((is_closing class ≡ true) ⊎ (is_short_circuit class ≡ true))
IsTurn depth class turn.Refutes = is_among class in_no_expression ≡ true
IsTurn depth class (turn.Takes following) = IsTaken depth class following

-- by the tests on the class
by_tests : (depth c : ℕ) (o l g s m : Bool) → is_opening c ≡ o → is_closing c ≡ l
    → begins_with_greater c ≡ g → is_short_circuit c ≡ s → is_among c in_no_expression ≡ m
    → IsTurn depth c (turn_by depth (if o then role.Opening else if l then role.Closing else if g
    then role.Greater else if s then role.ShortCircuit else if m then role.Stranger else role.Other))
by_tests depth c true l g s m eo el eg es em = inl (eo, refl)
by_tests zero c false true g s m eo el eg es em = (refl, inl el)
by_tests (suc depth) c false true g s m eo el eg es em = inr (inl (el, refl))
by_tests zero c false false true s m eo el eg es em = (refl, eg)
by_tests (suc depth) c false false true s m eo el eg es em = inr (inr (goes_on_deeper depth c eo el, refl))
by_tests zero c false false false true m eo el eg es em = (refl, inr es)
by_tests (suc depth) c false false false true m eo el eg es em = inr (inr (goes_on_deeper depth c eo el, refl))
by_tests depth c false false false false true eo el eg es em = em
by_tests zero c false false false false false eo el eg es em = inr (inr (goes_on_zero c eo el eg es, refl))
by_tests (suc depth) c false false false false false eo el eg es em = inr (inr (goes_on_deeper depth c eo el, refl))

turn_is : (depth c : ℕ) → IsTurn depth c (turn depth c)
turn_is depth c = by_tests depth c (is_opening c) (is_closing c) (begins_with_greater c)
    (is_short_circuit c) (is_among c in_no_expression) refl refl refl refl refl

pub turned : (depth c d : ℕ) (t : Turn) → c ≡ d → t ≡ turn depth c → IsTurn depth d t
turned depth c d t e is = subst (λ x. IsTurn depth x t) e (subst (IsTurn depth c) (sym is) (turn_is depth c))
