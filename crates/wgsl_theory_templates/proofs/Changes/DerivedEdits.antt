-- How the kinds that are written from a derived tree differ from the kinds of its tokens.
use Rattle.std.proofs.Common.{◌≡◌, true, false, List, [], refl, ap, subst, ◌∙◌}
use Rattle.grammar.specs.Tokens.{Token}
use Rattle.grammar.specs.Grammar.{Mode.checking, Means, Derives}
use Rattle.wgsl_model.specs.Trees.Attributed.{with_attributes}
use Rattle.wgsl_model.specs.Printed.Units as units
use Rattle.wgsl_model.specs.Trees.Units.{TranslationUnit}
use Rattle.wgsl_model.specs.Grammar.Symbols.{Symbol, expressions, component, statement, global_declaration, var_declaration, const_declaration, override_declaration, alias_declaration, struct_declaration, function_declaration, unit, Value}
use Rattle.wgsl_model.specs.Grammar.Written.{written}
use Rattle.wgsl_theory_reread.specs.CanonicalUnits.{canonical}
use Rattle.wgsl_theory_reread.proofs.Words.{AllWords}
use Rattle.wgsl_theory_reread.proofs.Again.{D}
use Rattle.wgsl_theory_reread.proofs.Derived.{by_derivation}
use Rattle.wgsl_theory_reread.proofs.DerivedAgain.{again}
use Rattle.wgsl_theory_templates.proofs.Reaching.Moves.{kinds}
use Rattle.wgsl_theory_templates.proofs.Changes.Edits.{Edits, at_the_end}
use Rattle.wgsl_theory_templates.proofs.Changes.EditWays.{Edited}
use Rattle.wgsl_theory_templates.proofs.Changes.EditSymbols.{finished}
use Rattle.wgsl_theory_templates.proofs.Changes.EditRules.{component_right}
use Rattle.wgsl_theory_templates.proofs.Changes.EditUnitRules.{unit_right}
use Rattle.wgsl_theory_templates.proofs.Changes.RuleTerms.{statement_right, global_declaration_right, rights}

-- each rule of the grammar
edit_rules : (n : Symbol) (v : Value n) (xs ys : List Token) → D n v xs ys
    → Means checking Edited (written n) v xs ys → Edited n v xs ys
edit_rules expressions v xs ys here d words = finished (again expressions v xs ys here words) tt
    ((again expressions v xs ys here words).0, tt)
edit_rules component v xs ys here d words = finished (again component v xs ys here words) tt
    (component_right v xs ys d words)
edit_rules statement v xs ys here d words = finished (again statement v xs ys here words) tt
    (statement_right.edit v xs ys d words)
edit_rules global_declaration v xs ys here d words = finished
    (again global_declaration v xs ys here words) tt (global_declaration_right.edit v xs ys d words)
edit_rules var_declaration v xs ys here d words = finished (again var_declaration v xs ys here words)
    (subst (λ z. units.is_void z ≡ false) (ap (with_attributes d.0.0) d.2.2.1 ∙ d.1) refl)
    ((rights var_declaration tt {b = false}).edit v xs ys d words)
edit_rules const_declaration v xs ys here d words = finished (again const_declaration v xs ys here words)
    (subst (λ z. units.is_void z ≡ false) (ap (with_attributes d.0.0) d.2.2.1 ∙ d.1) refl)
    ((rights const_declaration tt {b = false}).edit v xs ys d words)
edit_rules override_declaration v xs ys here d words =
    finished (again override_declaration v xs ys here words)
    (subst (λ z. units.is_void z ≡ false) (ap (with_attributes d.0.0) d.2.2.1 ∙ d.1) refl)
    ((rights override_declaration tt {b = false}).edit v xs ys d words)
edit_rules alias_declaration v xs ys here d words = finished (again alias_declaration v xs ys here words)
    (subst (λ z. units.is_void z ≡ false) (ap (with_attributes d.0.0) d.2.2.1 ∙ d.1) refl)
    ((rights alias_declaration tt {b = false}).edit v xs ys d words)
edit_rules struct_declaration v xs ys here d words = finished (again struct_declaration v xs ys here words)
    (subst (λ z. units.is_void z ≡ false) (ap (with_attributes d.0.0) d.2.2.1 ∙ d.1) refl)
    ((rights struct_declaration tt {b = false}).edit v xs ys d words)
edit_rules function_declaration v xs ys here d words =
    finished (again function_declaration v xs ys here words)
    (subst (λ z. units.is_void z ≡ false) (ap (with_attributes d.0.0) d.2.2.1 ∙ d.1) refl)
    ((rights function_declaration tt {b = false}).edit v xs ys d words)
edit_rules unit v xs ys here d words = finished (again unit v xs ys here words) tt (unit_right.edit v xs ys d words)
edit_rules n v xs ys here d words = finished (again n v xs ys here words) tt
    ((rights n tt {b = false}).edit v xs ys d words)

-- what is written from a symbol's value in place of its tokens
edited : (n : Symbol) (v : Value n) (xs ys : List Token) → D n v xs ys → Edited n v xs ys
edited = by_derivation Edited edit_rules

-- what is written from a derived module in place of its tokens
pub unit_edited : (u : TranslationUnit) (ts : List Token) → AllWords ts
    → Derives checking written unit u ts → Edits true (kinds ts) (canonical u)
unit_edited u ts words d = (edited unit u ts [] d words).3 [] (at_the_end true)
