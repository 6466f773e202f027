-- What is written from parts of modules, and from rules that RuleTerms leaves out.
use Rattle.std.proofs.Common.{◌≡◌, ℕ, Bool, true, false, List, ◌∷◌, Option, refl, sym, ap, ap₂, subst, ◌∙◌, inl, inr}
use Rattle.std.specs.Prelude.{if◌then◌else◌}
use Rattle.grammar.specs.Tokens.{Token}
use Rattle.grammar.specs.Grammar.{Grammar.symbol, Mode.checking, Means}
use Rattle.grammar.specs.Notation.{one_token, ◌then◌, ◌or◌, ◌means◌, ◌makes◌, optional, list, ◌gives◌}
use Rattle.wgsl_model.specs.Tokens.ClassTable.{SymArrow, SymComma, SymParenLeft, SymParenRight, SymPeriod, SymSemicolon, KwDiagnostic, KwFn}
use Rattle.wgsl_model.specs.Tokens.Kind.{Kind, plain}
use Rattle.wgsl_model.specs.Tokens.Raw.{kind_of_word}
use Rattle.wgsl_model.specs.Trees.Attributed.{with_attributes, without_attributes}
use Rattle.wgsl_model.specs.Trees.Spanned.{spanned}
use Rattle.wgsl_model.specs.Trees.Units.{GlobalDeclaration, UnattributedDeclaration, UnattributedDirective}
use Rattle.wgsl_model.specs.Printed.Units.{is_void}
use Rattle.wgsl_model.specs.Grammar.TokenValues.{text_of}
use Rattle.wgsl_model.specs.Grammar.StatementParts.{attributed}
use Rattle.wgsl_model.specs.Grammar.UnitParts.{return_part, texts_of, diagnostic_of}
use Rattle.wgsl_model.specs.Grammar.Symbols.{ident, formal_parameter, function_declaration, diagnostic_severity, global_directive, diagnostic_directive, unit, Rule, compound_statement, type_specifier}
use Rattle.wgsl_model.specs.Grammar.Written.{written}
use Rattle.wgsl_theory_grammar.proofs.Faults.PlainFaults.{one_class}
use Rattle.wgsl_theory_reread.specs.CanonicalExpressions.{Writer, optional_tokens, list_tokens, word_token}
use Rattle.wgsl_theory_reread.specs.CanonicalUnits.{directive_tokens, unattributed_declaration_tokens, global_declaration_tokens, kept_declaration_tokens, without_place, unattributed_directive_tokens}
use Rattle.wgsl_theory_reread.proofs.Words.{NoPeriod, AllWords}
use Rattle.wgsl_theory_reread.proofs.Again.{write, Known}
use Rattle.wgsl_theory_reread.proofs.Ways.{words_after}
use Rattle.wgsl_theory_reread.proofs.EachRule.UnitParts.{names_written, function_written, rule_written, returned_tokens}
use Rattle.wgsl_theory_reread.proofs.EachRule.UnitRules.{DiagnosticParts, diagnostic_parts, diagnostic_parts_tokens, severity_written}
use Rattle.wgsl_theory_templates.proofs.Reaching.Moves.{kinds}
use Rattle.wgsl_theory_templates.proofs.Changes.Edits.{ends_list, Edits, no_comma, widen}
use Rattle.wgsl_theory_templates.proofs.Changes.EditWays.{Edited, Turns, Changes, ListChanges, then_edits, or_edits, gives_edits, makes_edits, wider_edits, before_edits, after_edits, optional_edits, many_edits, list_edits, list_or_none_edits, ended_list_edits}
use Rattle.wgsl_theory_templates.proofs.Changes.EditSymbols.{symbol_edits, global_declaration_edits}
use Rattle.wgsl_theory_templates.proofs.Changes.EditAttributeRules.{attributes_edits}
use Rattle.wgsl_theory_templates.proofs.Changes.EditStatementParts.{empty_edits}

-- ---- declarations after attributes
pub declaration_edits : {e b : Bool} {g : Rule UnattributedDeclaration}
    → Changes e false g unattributed_declaration_tokens
    → Changes e b (attributed with_attributes g) global_declaration_tokens
declaration_edits G = gives_edits (then_edits attributes_edits G) (λ a rest. refl)

-- ---- declarations of types and functions
pub returned_edits : {b : Bool} → Changes false b (optional return_part) (optional_tokens returned_tokens)
returned_edits = optional_edits {e = false} tt
    (before_edits SymArrow (then_edits attributes_edits (symbol_edits type_specifier tt)))

pub function_declaration_right : {b : Bool} → Changes true b (written function_declaration) (write function_declaration)
function_declaration_right = declaration_edits (gives_edits
    (before_edits KwFn (then_edits (symbol_edits ident tt) (before_edits SymParenLeft
    (then_edits (ended_list_edits SymParenRight refl (list_or_none_edits (symbol_edits formal_parameter tt)
    (symbol_edits formal_parameter tt))) (then_edits returned_edits (symbol_edits compound_statement tt))))))
    (λ a rest. function_written a.0 a.1.0 a.1.1.0 a.1.1.1 rest))

-- ---- declarations in a module, where an empty one has no tokens
abbrev pub kept_declaration : Writer GlobalDeclaration
kept_declaration d rest = if is_void d then rest else global_declaration_tokens d rest

-- a declaration that is not empty
abbrev pub FilledWith : Rule GlobalDeclaration → Type 0
FilledWith g = (v : GlobalDeclaration) (xs ys : List Token) → Means checking Edited g v xs ys → AllWords xs
    → AllWords ys × Unit {0} × (is_void v ≡ false) × Turns true false global_declaration_tokens v xs ys

pub filled_edits : {g : Rule GlobalDeclaration} → FilledWith g → Changes true false g kept_declaration
filled_edits f = record {
  edit = λ v xs ys d words.
      let found = f v xs ys d words in (
        found.0,
        λ ks r. subst (λ (z : List Kind). Edits false (kinds xs) z)
            (sym (ap (λ (b : Bool). if b then ks else global_declaration_tokens v ks) found.2)) (found.3 ks r),
      );
}

-- an empty declaration, or one that is not
pub empty_declaration_edits : {g : Rule GlobalDeclaration} → Changes true false g kept_declaration
    → Changes true true (SymSemicolon means without_attributes UnattributedDeclaration.void or g) kept_declaration
empty_declaration_edits G = or_edits (empty_edits (λ rest. refl)) (wider_edits {m = false} tt G)

pub placed_edits : {g : Rule GlobalDeclaration} → Changes true true g kept_declaration
    → Changes true true (g makes spanned) kept_declaration_tokens
placed_edits G = makes_edits {writes = kept_declaration} G (λ a span rest. refl)

-- ---- directives
pub names_edits : {b : Bool}
    → ListChanges b (list SymComma (symbol ident)) (λ names rest. list_tokens word_token (texts_of names) rest)
names_edits {b} = record {
  edit = λ v xs ys d words.
      let found = (list_edits {b = b} (symbol_edits ident tt) (symbol_edits ident tt)).edit v xs ys d words in
      (found.0, λ ks f r. subst (λ (z : List Kind). Edits b (kinds xs) z) (sym (names_written v ks)) (found.1 ks f r));
}

-- a directive after its attributes
pub directive_edits : {b : Bool} {g : Rule UnattributedDirective}
    → Changes true false g unattributed_directive_tokens
    → Changes true b (attributed with_attributes g) directive_tokens
directive_edits G = gives_edits (then_edits attributes_edits G) (λ a rest. refl)

-- ---- `diagnostic`
-- a comma that may be before what ends a list is left out
comma_edits : {b : Bool} → ListChanges b (optional (one_token SymComma)) (λ v rest. rest)
comma_edits {b} = record { edit = go } where
  go : (v : Option Token) (xs ys : List Token)
      → Means checking Edited (optional (one_token SymComma)) v xs ys → AllWords xs → AllWords ys
      × ((ks : List Kind) → ends_list ks ≡ true → Edits false (kinds ys) ks → Edits b (kinds xs) ks)
  go v xs ys (inl d) words = (
    words_after d.0 xs ys d.2.1 words,
    λ ks f r. subst (λ (z : List Token). Edits b (kinds z) ks) (sym d.2.1)
        (no_comma b (without_place d.0) (kinds ys) ks (one_class d.0.class SymComma d.2.0) f r),
  )
  go v xs ys (inr d) words = (
    subst AllWords d.1 words,
    λ ks f r. subst (λ (z : List Token). Edits b (kinds z) ks) (sym d.1) (widen {e = false} {b = b} tt r),
  )

diagnostic_parts_edits : {b : Bool} → Changes true b diagnostic_parts diagnostic_parts_tokens
diagnostic_parts_edits =
    then_edits (after_edits {m = false} SymComma (symbol_edits diagnostic_severity tt))
    (then_edits (symbol_edits ident tt)
    (then_edits (optional_edits {e = false} tt (before_edits SymPeriod (symbol_edits ident tt)))
    (after_edits {m = false} SymSemicolon (ended_list_edits SymParenRight refl comma_edits))))

diagnostic_tokens : (p : DiagnosticParts) → Known diagnostic_severity p.0 → NoPeriod (text_of p.1.0)
    → (rest : List Kind)
    → unattributed_directive_tokens (diagnostic_of p.0 p.1.0 p.1.1.0) rest ≡ diagnostic_parts_tokens p rest
diagnostic_tokens p severity name rest =
    ap₂ (λ (word : List ℕ) (rule : List Kind). plain KwDiagnostic
    ∷ (plain SymParenLeft ∷ (kind_of_word word ∷ (plain SymComma ∷ rule)))) (severity_written p.0 severity)
    (rule_written p.1.0 p.1.1.0 (plain SymParenRight ∷ (plain SymSemicolon ∷ rest)) name)

named_diagnostic_edits : {b : Bool} → Changes true b
    (diagnostic_parts gives λ p. diagnostic_of p.0 p.1.0 p.1.1.0) unattributed_directive_tokens
named_diagnostic_edits {b} = record {
  edit = λ v xs ys d words.
      let parts = d.2 in
      let severity = parts.1.2.1 words in
      let severity_known : Known diagnostic_severity d.0.0 =
      subst (λ (z : Token). Known diagnostic_severity z) parts.1.1 severity.1 in
      let name = parts.2.1 (words_after parts.1.0.1 parts.1.2.0 parts.0 parts.1.2.2.1 severity.0) in
      let found = (diagnostic_parts_edits {b = b}).edit d.0 xs ys d.2 words in (
        found.0,
        λ ks r. subst (λ (z : List Kind). Edits b (kinds xs) z) (sym (ap (λ z. unattributed_directive_tokens z ks)
            (sym d.1) ∙ diagnostic_tokens d.0 severity_known name.1 ks)) (found.1 ks r),
      );
}

pub diagnostic_directive_right : {b : Bool} → Changes true b (written diagnostic_directive) (write diagnostic_directive)
diagnostic_directive_right = directive_edits named_diagnostic_edits

-- ---- modules
pub unit_right : Changes true true (written unit) (write unit)
unit_right =
    gives_edits (then_edits (many_edits {e = true} {b = true} tt (symbol_edits global_directive tt))
    (many_edits {e = true} {b = true} tt global_declaration_edits)) (λ a rest. refl)
