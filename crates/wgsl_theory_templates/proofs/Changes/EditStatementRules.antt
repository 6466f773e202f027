-- What is written from parts of statements, and from rules that RuleTerms leaves out.
use Rattle.std.proofs.Common.{◌≡◌, Bool, true, false, List, ◌∷◌, refl, sym, ap, subst, ◌∙◌}
use Rattle.std.specs.Prelude.{if◌then◌else◌, Option}
use Rattle.grammar.specs.Tokens.{Token}
use Rattle.grammar.specs.Grammar.{Grammar.symbol, Mode.checking, Means}
use Rattle.grammar.specs.Notation.{one_token, ◌then◌, ◌or◌, ◌makes◌, ◌▹◌, ◌◃◌, ◌means◌, ◌gives◌}
use Rattle.wgsl_model.specs.Tokens.ClassTable.{SymPlusPlus, SymSemicolon, SymUnderscore, KwCase, KwConst, KwConstAssert, KwDefault, KwLet}
use Rattle.wgsl_model.specs.Tokens.Kind.{Kind, plain}
use Rattle.wgsl_model.specs.Trees.Statements as tree
use Rattle.wgsl_model.specs.Trees.Statements.{DeclarationKind.let_kind, DeclarationKind.const_kind, CompoundStatement, Statement, UnattributedStatement, assert_of, unattributed, continuing_statement_of}
use Rattle.wgsl_model.specs.Printed.Statements.{is_void}
use Rattle.wgsl_model.specs.Grammar.StatementParts.{placed_statement, underscore_at, attributed, left_side}
use Rattle.wgsl_model.specs.Grammar.Symbols.{compound_statement, switch_clause, case_selector, Rule, expression, Dialect.parsed}
use Rattle.wgsl_model.specs.Grammar.Written.{written}
use Rattle.wgsl_theory_grammar.proofs.Faults.PlainFaults.{one_class}
use Rattle.wgsl_theory_reread.specs.CanonicalExpressions.{Writer, expression_node_tokens}
use Rattle.wgsl_theory_reread.specs.CanonicalAttributes.{attributes_tokens}
use Rattle.wgsl_theory_reread.specs.CanonicalStatements.{kind_tokens, end_token, unended_tokens, unattributed_tokens, compound_tokens, assert_tokens, continuing_tokens}
use Rattle.wgsl_theory_reread.specs.CanonicalUnits.{without_place}
use Rattle.wgsl_theory_reread.proofs.Words.{AllWords}
use Rattle.wgsl_theory_reread.proofs.Again.{write, Ended, Unended}
use Rattle.wgsl_theory_reread.proofs.Ways.{words_after}
use Rattle.wgsl_theory_reread.proofs.EachRule.StatementRules.{clause_body, case_clause, default_clause, clause_tokens, ContinuingParts, continuing_part_tokens}
use Rattle.wgsl_theory_reread.proofs.EachRule.StatementParts.{kept_tokens}
use Rattle.wgsl_theory_templates.proofs.Reaching.Moves.{kinds}
use Rattle.wgsl_theory_templates.proofs.Changes.Edits.{Edits, with_case}
use Rattle.wgsl_theory_templates.proofs.Changes.EditWays.{sign_edits, Edited, Turns, Changed, Changes, token_turns, then_edits, or_edits, gives_edits, makes_edits, before_edits, after_edits, means_edits, list_edits, wider_edits}
use Rattle.wgsl_theory_templates.proofs.Changes.EditSymbols.{symbol_edits}
use Rattle.wgsl_theory_templates.proofs.Changes.EditRules.{open_left_side_edits, parenthesized_left_side_edits}
use Rattle.wgsl_theory_templates.proofs.Changes.EditAttributeRules.{attributes_edits}
use Rattle.wgsl_theory_templates.proofs.Changes.EditStatementParts.{narrow_edits, empty_edits, list_then_edits, block_ends_list, clause_body_edits}

-- ---- statements after attributes
pub attributed_edits : {e b : Bool} {g : Rule UnattributedStatement}
    → Changes e false g unattributed_tokens → Changes e b (attributed tree.statement g) unended_tokens
attributed_edits G = gives_edits (then_edits attributes_edits G) (λ a rest. refl)

-- ---- statements that a `;` ends
pub value_kind_edits : {b : Bool} → Changes false b (KwLet means let_kind or KwConst means const_kind) kind_tokens
value_kind_edits = or_edits (means_edits KwLet (λ rest. refl)) (means_edits KwConst (λ rest. refl))

-- `continuing` from its word on, after attributes
pub continuing_edits : {e b : Bool} {g : Rule ContinuingParts} → Changes e false g continuing_part_tokens
    → Changes e b (attributed continuing_statement_of g) continuing_tokens
continuing_edits G = gives_edits (then_edits attributes_edits G) (λ a rest. refl)

-- a left side after attributes
pub left_side_edits : {b : Bool}
    → Changes false b (left_side parsed) (λ p rest. attributes_tokens p.0 (expression_node_tokens p.1 rest))
left_side_edits = or_edits (then_edits attributes_edits open_left_side_edits)
    (gives_edits parenthesized_left_side_edits (λ a rest. refl))

-- `++`, before which no stop may be
pub increased_edits : {b : Bool} → Changes false b (left_side parsed ◃ SymPlusPlus)
    (λ p rest. attributes_tokens p.0 (expression_node_tokens p.1 (plain SymPlusPlus ∷ rest)))
increased_edits = narrow_edits {e = true} (after_edits {m = false} SymPlusPlus left_side_edits)

pub assert_edits : {b : Bool} → Changes false b (KwConstAssert ▹ symbol expression gives assert_of) assert_tokens
assert_edits = gives_edits (before_edits KwConstAssert (symbol_edits expression tt)) (λ a rest. refl)

-- the phony assignment, whose left side is the identifier `_`
pub underscore_edits : {b : Bool} → Changes true b (one_token SymUnderscore makes underscore_at) expression_node_tokens
underscore_edits = makes_edits (sign_edits SymUnderscore) (λ a span rest. refl)

-- ---- clauses: the optional colon is left out, and `default` alone is written `case default`
default_edits : {b : Bool} → Changes true b (KwDefault ▹ clause_body)
    (λ p rest. plain KwCase ∷ (plain KwDefault ∷ compound_tokens p.1 rest))
default_edits {b} = record {
  edit = λ v xs ys d words.
      subst (λ (z : Option Token × CompoundStatement). Changed true b
      (λ p rest. plain KwCase ∷ (plain KwDefault ∷ compound_tokens p.1 rest)) z xs ys) d.1 (
      let t = d.0.0 in
      let found = (clause_body_edits {b = false}).edit d.0.1 d.2.0 ys d.2.2 (words_after t xs d.2.0 d.2.1.1 words) in (
        found.0,
        λ ks r. subst (λ (z : List Token). Edits b (kinds z)
            (plain KwCase ∷ (plain KwDefault ∷ compound_tokens d.0.1.1 ks))) (sym d.2.1.1)
            (with_case b (without_place t) (kinds d.2.0) (compound_tokens d.0.1.1 ks)
            (one_class t.class KwDefault d.2.1.0) (found.1 ks r)),
      )
      );
}

clause_edits : {b : Bool} → Changes true b (case_clause or default_clause) clause_tokens
clause_edits =
    or_edits (gives_edits (before_edits KwCase (list_then_edits (λ v rest. block_ends_list v.1 rest)
    (list_edits (symbol_edits case_selector tt) (symbol_edits case_selector tt)) clause_body_edits))
    (λ a rest. refl)) (gives_edits default_edits (λ a rest. refl))

pub switch_clause_right : {b : Bool} → Changes true b (written switch_clause) (write switch_clause)
switch_clause_right = gives_edits (then_edits attributes_edits clause_edits) (λ a rest. refl)

-- ---- statements in a list, where an empty one has no tokens
abbrev pub kept_plain : Writer Statement
kept_plain s rest = if is_void s then rest else unended_tokens s (end_token s rest)

kept_is : (s : Statement) (rest : List Kind) → is_void s ≡ false
    → kept_plain s rest ≡ unended_tokens s (end_token s rest)
kept_is s rest h = ap (λ (b : Bool). if b then rest else unended_tokens s (end_token s rest)) h

block_kept : (b : CompoundStatement) (rest : List Kind)
    → kept_plain (tree.block_statement b) rest ≡ compound_tokens b rest
block_kept (tree.compound_statement attributes ss) rest = refl

-- what is known of a statement without its `;`, which one does or does not end
abbrev pub EditsWith : (Statement → Type 0) → Bool → Rule Statement → Type 0
EditsWith P e g = (v : Statement) (xs ys : List Token) → Means checking Edited g v xs ys
    → AllWords xs → AllWords ys × P v × Unit {0} × Turns e false unended_tokens v xs ys

pub ended_edits : {g : Rule Statement} → EditsWith Ended false g → Changes true false (g ◃ SymSemicolon) kept_plain
ended_edits {g} f = record {
  edit = λ v xs ys d words.
      subst (λ (z : Statement). Changed true false kept_plain z xs ys) d.1 (
      let found = f d.0.0 xs d.2.0 d.2.1 words in (
        words_after d.0.1 d.2.0 ys d.2.2.1 found.0,
        λ ks r. subst (λ (z : List Kind). Edits false (kinds xs) z)
            (sym (kept_is d.0.0 ks found.1.0 ∙ ap (unended_tokens d.0.0) (found.1.1 ks)))
            (found.3 (plain SymSemicolon ∷ ks)
            (token_turns {b = false} {c = SymSemicolon} d.0.1 d.2.0 ys ks d.2.2.0 d.2.2.1 r)),
      )
      );
}

pub unended_edits : {g : Rule Statement} → EditsWith Unended true g → Changes true false g kept_plain
unended_edits {g} f = record {
  edit = λ v xs ys d words.
      let found = f v xs ys d words in (
        found.0,
        λ ks r. subst (λ (z : List Kind). Edits false (kinds xs) z)
            (sym (kept_is v ks found.1.0 ∙ ap (unended_tokens v) (found.1.1 ks))) (found.3 ks r),
      );
}

pub block_edits : Changes true false (symbol compound_statement gives tree.block_statement) kept_plain
block_edits = gives_edits (symbol_edits compound_statement tt) block_kept

-- an empty statement, or one that is not
pub void_edits : {g : Rule Statement} → Changes true false g kept_plain
    → Changes true true (SymSemicolon means unattributed UnattributedStatement.void or g) kept_plain
void_edits G = or_edits (empty_edits (λ rest. refl)) (wider_edits {m = false} tt G)

pub item_edits : {g : Rule Statement} → Changes true true g kept_plain
    → Changes true true (g makes placed_statement) kept_tokens
item_edits G = makes_edits {writes = kept_plain} G (λ a span rest. refl)
