-- What is written from the parts that the rules of statements share.
use Rattle.std.proofs.Common.{◌≡◌, ℕ, Bool, true, false, List, [], ◌∷◌, refl, sym, ap, subst, inl, inr}
use Rattle.std.specs.Prelude.{if◌then◌else◌, Option}
use Rattle.grammar.specs.Tokens.{Token}
use Rattle.grammar.specs.Grammar.{Grammar.symbol, Mode.checking, Means}
use Rattle.grammar.specs.Notation.{one_token, ◌then◌, ◌means◌, optional, many, several, ◌gives◌, ◌▹◌, ◌◃◌}
use Rattle.wgsl_model.specs.Tokens.ClassTable.{SymAndEqual, SymColon, SymDivisionEqual, SymEqual, SymMinusEqual, SymModuloEqual, SymOrEqual, SymPlusEqual, SymSemicolon, SymShiftLeftAssign, SymShiftRightAssign, SymTimesEqual, SymXorEqual, KwBreak, KwElse, KwIf}
use Rattle.wgsl_model.specs.Tokens.Kind.{Kind, plain}
use Rattle.wgsl_model.specs.Trees.Operators.{AssignmentOperator}
use Rattle.wgsl_model.specs.Trees.Statements as tree
use Rattle.wgsl_model.specs.Trees.Statements.{CompoundStatement, StatementNode, statements_of, else_ifs_of, else_of, clauses_of, continuing_of, maybe_statement, break_if_of}
use Rattle.wgsl_model.specs.Grammar.StatementParts.{statements, initializer, var_kind, assignment_operator, else_if, else_block, break_if}
use Rattle.wgsl_model.specs.Grammar.Symbols.{compound_statement, switch_clause, continuing_statement, Rule, expression, var_template, Dialect.parsed}
use Rattle.wgsl_theory_grammar.proofs.Faults.PlainFaults.{one_class}
use Rattle.wgsl_theory_reread.specs.CanonicalExpressions.{Writer}
use Rattle.wgsl_theory_reread.specs.CanonicalStatements.{kind_tokens, initializer_tokens, assignment_operator_class, break_if_tokens, statements_tokens, compound_tokens, else_ifs_tokens, else_if_clause_tokens, else_tokens, else_clause_tokens, clauses_tokens, maybe_continuing_tokens, part_tokens}
use Rattle.wgsl_theory_reread.specs.CanonicalUnits.{without_place}
use Rattle.wgsl_theory_reread.proofs.Words.{AllWords}
use Rattle.wgsl_theory_reread.proofs.Again.{header_tokens}
use Rattle.wgsl_theory_reread.proofs.Ways.{words_after}
use Rattle.wgsl_theory_reread.proofs.EachRule.StatementParts.{part_written, else_ifs_written, clauses_written, bare_break_if_tokens, written_after}
use Rattle.wgsl_theory_reread.proofs.EachRule.StatementRules.{clause_body}
use Rattle.wgsl_theory_templates.proofs.Reaching.Moves.{kinds}
use Rattle.wgsl_theory_templates.proofs.Changes.Edits.{ends_list, first_among, block_begins, Edits, no_colon, no_semicolon, widen}
use Rattle.wgsl_theory_templates.proofs.Changes.EditWays.{Edited, Changed, Changes, ListChanges, then_edits, or_edits, gives_edits, equal_edits, before_edits, after_edits, means_edits, none_edits, chain_edits, many_edits, several_edits}
use Rattle.wgsl_theory_templates.proofs.Changes.EditSymbols.{symbol_edits, statement_edits}
use Rattle.wgsl_theory_templates.proofs.Changes.EditAttributeRules.{attributes_edits}

-- ---- more ways to write a right side
-- before what no stop may be in front of
pub narrow_edits : {e b : Bool} {A : Type 0} {g : Rule A} {writes : Writer A} → Changes e b g writes
    → Changes false b g writes
narrow_edits {e} G = record {
  edit = λ v xs ys d words. let found = G.edit v xs ys d words in
      (found.0, λ ks r. found.1 ks (widen {e = false} {b = e} tt r));
}

-- the `;` of an empty item
pub empty_edits : {A : Type 0} {a : A} {writes : Writer A}
    → ((rest : List Kind) → writes a rest ≡ rest) → Changes true true (SymSemicolon means a) writes
empty_edits {A} {a} {writes} s = record {
  edit = λ v xs ys d words.
      subst (λ (z : A). Changed true true writes z xs ys) d.1 (
        words_after d.0 xs ys d.2.1 words,
        λ ks r. subst (λ (z : List Kind). Edits true (kinds xs) z) (sym (s ks))
            (subst (λ (z : List Token). Edits true (kinds z) ks) (sym d.2.1)
            (no_semicolon (without_place d.0) (kinds ys) ks (one_class d.0.class SymSemicolon d.2.0) r)),
      );
}

-- a list, then a part that begins as what ends a list
pub list_then_edits : {e b : Bool} {A B : Type 0} {g : Rule A} {h : Rule B} {writes_1 : Writer A} {writes_2 : Writer B}
    → ((v : B) (rest : List Kind) → ends_list (writes_2 v rest) ≡ true) → ListChanges b g writes_1
    → Changes e false h writes_2 → Changes e b (g then h) (λ p rest. writes_1 p.0 (writes_2 p.1 rest))
list_then_edits {writes_2 = writes_2} f G H = record {
  edit = λ v xs ys d words.
      let first = G.edit v.0 xs d.0 d.1 words in
      let second = H.edit v.1 d.0 ys d.2 first.0 in
      (second.0, λ ks r. first.1 (writes_2 v.1 ks) (f v.1 ks) (second.1 ks r));
}

-- ---- parts of one rule
pub var_kind_edits : {b : Bool} → Changes false b var_kind kind_tokens
var_kind_edits = gives_edits (symbol_edits var_template tt) (λ a rest. refl)

pub initializer_edits : {b : Bool} → Changes false b initializer initializer_tokens
initializer_edits = before_edits SymEqual (symbol_edits expression tt)

condition_edits : {b : Bool}
    → Changes true b (KwBreak ▹ KwIf ▹ symbol expression ◃ SymSemicolon gives break_if_of) bare_break_if_tokens
condition_edits = gives_edits (before_edits KwBreak (before_edits KwIf
    (after_edits {m = false} SymSemicolon (symbol_edits expression tt)))) (λ a rest. refl)

pub break_if_edits : {b : Bool} → Changes true b (break_if parsed) break_if_tokens
break_if_edits = gives_edits (then_edits attributes_edits condition_edits) (λ a rest. refl)

else_if_edits : {b : Bool} → Changes true b else_if else_if_clause_tokens
else_if_edits = gives_edits (before_edits KwElse (before_edits KwIf
    (then_edits (symbol_edits expression tt) (symbol_edits compound_statement tt)))) (λ a rest. refl)

else_block_edits : {b : Bool} → Changes true b else_block else_clause_tokens
else_block_edits = gives_edits (before_edits KwElse (symbol_edits compound_statement tt)) (λ a rest. refl)

-- the operators of assignments
operator_edits : {b : Bool} (c : ℕ) {operator : AssignmentOperator} → assignment_operator_class operator ≡ c
    → Changes false b (c means operator) (λ v rest. plain (assignment_operator_class v) ∷ rest)
operator_edits c q = narrow_edits (means_edits c (λ rest. ap (λ z. plain z ∷ rest) q))

pub assignment_operator_edits : {b : Bool}
    → Changes false b assignment_operator (λ v rest. plain (assignment_operator_class v) ∷ rest)
assignment_operator_edits = or_edits (operator_edits SymEqual refl)
    (or_edits (operator_edits SymPlusEqual refl)
    (or_edits (operator_edits SymMinusEqual refl) (or_edits (operator_edits SymTimesEqual refl)
    (or_edits (operator_edits SymDivisionEqual refl) (or_edits (operator_edits SymModuloEqual refl)
    (or_edits (operator_edits SymAndEqual refl) (or_edits (operator_edits SymOrEqual refl)
    (or_edits (operator_edits SymXorEqual refl) (or_edits (operator_edits SymShiftRightAssign refl)
    (operator_edits SymShiftLeftAssign refl))))))))))

-- ---- parts that may be left out, as they are in a tree
pub else_edits : Changes true true (optional else_block) (λ v rest. else_tokens (else_of v) rest)
else_edits = or_edits (gives_edits else_block_edits (λ a rest. refl)) (none_edits {e = true} tt (λ rest. refl))

pub maybe_continuing_edits : Changes true true (optional (symbol continuing_statement))
    (λ v rest. maybe_continuing_tokens (continuing_of v) rest)
maybe_continuing_edits = or_edits (gives_edits (symbol_edits continuing_statement tt) (λ a rest. refl))
    (none_edits {e = true} tt (λ rest. refl))

pub part_edits : {b : Bool} {g : Rule StatementNode} → Changes false b g header_tokens
    → Changes false b (optional g) (λ v rest. part_tokens (maybe_statement v) rest)
part_edits G = or_edits (gives_edits G part_written) (none_edits {e = false} tt (λ rest. refl))

-- ---- lists, as they are in a tree

pub else_ifs_edits : Changes true true (many else_if) (λ v rest. else_ifs_tokens (else_ifs_of v) rest)
else_ifs_edits = equal_edits (many_edits {e = true} {b = true} tt else_if_edits) else_ifs_written

pub clauses_edits : {b : Bool}
    → Changes true b (several (symbol switch_clause)) (λ v rest. clauses_tokens (clauses_of v) rest)
clauses_edits = equal_edits
    (several_edits (symbol_edits switch_clause tt) (symbol_edits switch_clause tt)) clauses_written

-- ---- statements, where empty ones are left out

pub statements_edits : Changes true true statements (λ ss rest. statements_tokens (statements_of ss) rest)
statements_edits = chain_edits (none_edits {e = true} tt (λ rest. refl)) statement_edits
    (λ a x span rest. written_after a x rest)

-- ---- a block after a colon that may be there
block_first : (v : CompoundStatement) (rest : List Kind) → first_among block_begins (compound_tokens v rest) ≡ true
block_first (tree.compound_statement [] ss) rest = refl
block_first (tree.compound_statement (a ∷ more) ss) rest = refl

pub block_ends_list : (v : CompoundStatement) (rest : List Kind) → ends_list (compound_tokens v rest) ≡ true
block_ends_list (tree.compound_statement [] ss) rest = refl
block_ends_list (tree.compound_statement (a ∷ more) ss) rest = refl

pub clause_body_edits : {b : Bool} → Changes true b clause_body (λ p rest. compound_tokens p.1 rest)
clause_body_edits {b} = record { edit = λ v xs ys d words. go v xs ys d.0 d.1 d.2 words } where
  go : (v : Option Token × CompoundStatement) (xs ys ms : List Token)
      → Means checking Edited (optional (one_token SymColon)) v.0 xs ms
      → Edited compound_statement v.1 ms ys → AllWords xs
      → Changed true b (λ p rest. compound_tokens p.1 rest) v xs ys
  go v xs ys ms (inl d) body words =
      let found = (symbol_edits compound_statement tt {b = false}).edit v.1 ms ys body
      (words_after d.0 xs ms d.2.1 words) in (
        found.0,
        λ ks r. subst (λ (z : List Token). Edits b (kinds z) (compound_tokens v.1 ks)) (sym d.2.1)
            (no_colon b (without_place d.0) (kinds ms) (compound_tokens v.1 ks)
            (one_class d.0.class SymColon d.2.0) (block_first v.1 ks) (found.1 ks r)),
      )
  go v xs ys ms (inr d) body words =
      let found = (symbol_edits compound_statement tt {b = b}).edit v.1 ms ys body (subst AllWords d.1 words) in
      (found.0, λ ks r. subst (λ (z : List Token). Edits b (kinds z) (compound_tokens v.1 ks)) (sym d.1) (found.1 ks r))
