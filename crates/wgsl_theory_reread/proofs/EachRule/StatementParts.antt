-- How the parts that the rules of statements share are read again: symbols, lists and blocks.
use Rattle.std.proofs.Common.{◌≡◌, ℕ, Bool, true, false, List, [], ◌∷◌, ◌++◌, map, refl, sym, ap, ap₂, ◌∙◌}
use Rattle.std.specs.Prelude.{if◌then◌else◌}
use Rattle.grammar.specs.Tokens.{Token, Span}
use Rattle.grammar.specs.Grammar.{Grammar.empty, Grammar.symbol, Mode.checking, Chain.base, Chain.more, Means, is_among}
use Rattle.grammar.specs.Notation.{◌gives◌, ◌▹◌, ◌◃◌, ◌means◌, optional, many, several}
use Rattle.wgsl_model.specs.Tokens.ClassTable.{SymAndEqual, SymDivisionEqual, SymEqual, SymMinusEqual, SymModuloEqual, SymOrEqual, SymPlusEqual, SymSemicolon, SymShiftLeftAssign, SymShiftRightAssign, SymTimesEqual, SymXorEqual, KwBreak, KwElse, KwIf}
use Rattle.wgsl_model.specs.Tokens.Kind.{Kind, plain}
use Rattle.wgsl_model.specs.Trees.Operators.{AssignmentOperator}
use Rattle.wgsl_model.specs.Trees.Attributed.{with_attributes}
use Rattle.wgsl_model.specs.Trees.Statements as tree
use Rattle.wgsl_model.specs.Trees.Statements.{BreakIfStatement, ElseIfClause, StatementNode, StatementNode.statement_node, Statement, SwitchClause, StatementNodes, StatementNodes.no_statements, StatementNodes.statement_before, ElseIfClauses.else_if_before, SwitchClauses.clause_before, statements_of, else_ifs_of, else_of, clauses_of, continuing_of, maybe_statement, break_if_of}
use Rattle.wgsl_model.specs.Printed.Statements.{is_void}
use Rattle.wgsl_model.specs.Grammar.StatementParts.{statements, assignment_operator, else_if, else_block, break_if}
use Rattle.wgsl_model.specs.Trees.StatementsWithoutSpans.{bare_attributed, bare_break_if, bare_statement_node, bare_statements, bare_else_if_clause, bare_else_ifs, bare_else_clause, bare_else, bare_switch_clause, bare_clauses, bare_maybe_continuing, bare_part}
use Rattle.wgsl_model.specs.Trees.EmptyItems.{full_statement, full_statements, full_else_if_clause, full_else_ifs, full_else_clause, full_else, full_switch_clause, full_clauses, full_maybe_continuing, full_part}
use Rattle.wgsl_model.specs.Grammar.Symbols.{Dialect.parsed, Symbol.statement, Symbol.switch_clause, Symbol.continuing_statement, Rule, compound_statement, expression}
use Rattle.wgsl_theory_reread.specs.CanonicalExpressions.{Writer, all_tokens, expression_node_tokens}
use Rattle.wgsl_theory_reread.specs.CanonicalStatements.{assignment_operator_class, break_if_tokens, end_token, unended_tokens, statements_tokens, else_ifs_tokens, else_if_clause_tokens, else_tokens, else_clause_tokens, clauses_tokens, switch_clause_tokens, maybe_continuing_tokens, part_tokens}
use Rattle.wgsl_theory_reread.specs.CanonicalUnits.{without_place}
use Rattle.wgsl_theory_reread.proofs.Words.{AllWords}
use Rattle.wgsl_theory_reread.proofs.Again.{D, header_tokens, seen_statement, write, Same, Found, Again}
use Rattle.wgsl_theory_reread.proofs.Ways.{Outcome, Reads, found_in, then_reads, or_reads, gives_reads, equal_reads, before_reads, after_reads, means_reads, none_reads, many_reads, several_reads}
use Rattle.wgsl_theory_reread.proofs.Rules.{AttributeReads, attributes_read, symbol_reads}

-- ---- parts of one rule
-- `break if` without its attributes
abbrev pub bare_break_if_tokens : Writer BreakIfStatement
bare_break_if_tokens b rest = plain KwBreak
    ∷ (plain KwIf ∷ expression_node_tokens b.expression (plain SymSemicolon ∷ rest))

condition_reads : Reads (KwBreak ▹ KwIf ▹ symbol expression ◃ SymSemicolon gives break_if_of)
    bare_break_if_tokens (λ w v. bare_break_if w ≡ bare_break_if v)
condition_reads = gives_reads (before_reads KwBreak refl
    (before_reads KwIf refl (after_reads SymSemicolon refl (symbol_reads expression))))
    (λ a rest. refl) (λ w a h. λ i. record { expression = h i })

pub break_if_reads : AttributeReads → Reads (break_if parsed) break_if_tokens
    (λ w v. bare_attributed bare_break_if w ≡ bare_attributed bare_break_if v)
break_if_reads one = gives_reads (then_reads (attributes_read one) condition_reads) (λ a rest. refl)
    (λ w a h. λ i. with_attributes (h.0 i) (h.1 i))

else_if_reads : Reads else_if else_if_clause_tokens
    (λ w v. bare_else_if_clause w ≡ bare_else_if_clause (full_else_if_clause v))
else_if_reads = gives_reads (before_reads KwElse refl
    (before_reads KwIf refl (then_reads (symbol_reads expression) (symbol_reads compound_statement))))
    (λ a rest. refl) (λ w a h. λ i. tree.else_if_clause [] (h.0 i) (h.1 i))

else_block_reads : Reads else_block else_clause_tokens
    (λ w v. bare_else_clause w ≡ bare_else_clause (full_else_clause v))
else_block_reads = gives_reads (before_reads KwElse refl (symbol_reads compound_statement))
    (λ a rest. refl) (λ w a h. λ i. tree.else_clause [] (h i))

-- the operators of assignments
operator_reads : (c : ℕ) {operator : AssignmentOperator} → assignment_operator_class operator ≡ c
    → is_among c (c ∷ []) ≡ true
    → Reads (c means operator) (λ v rest. plain (assignment_operator_class v) ∷ rest) (λ w v. w ≡ v)
operator_reads c e known = means_reads c known (λ rest. ap (λ z. plain z ∷ rest) e) refl

pub assignment_operator_reads : Reads assignment_operator
    (λ v rest. plain (assignment_operator_class v) ∷ rest) (λ w v. w ≡ v)
assignment_operator_reads = or_reads (operator_reads SymEqual refl refl)
    (or_reads (operator_reads SymPlusEqual refl refl)
    (or_reads (operator_reads SymMinusEqual refl refl) (or_reads (operator_reads SymTimesEqual refl refl)
    (or_reads (operator_reads SymDivisionEqual refl refl) (or_reads (operator_reads SymModuloEqual refl refl)
    (or_reads (operator_reads SymAndEqual refl refl) (or_reads (operator_reads SymOrEqual refl refl)
    (or_reads (operator_reads SymXorEqual refl refl) (or_reads (operator_reads SymShiftRightAssign
    refl refl) (operator_reads SymShiftLeftAssign refl refl))))))))))

-- ---- parts that may be left out, as they are in a tree
pub else_reads : Reads (optional else_block) (λ v rest. else_tokens (else_of v) rest)
    (λ w v. bare_else (else_of w) ≡ bare_else (full_else (else_of v)))
else_reads = or_reads (gives_reads else_block_reads (λ a rest. refl) (λ w a h. λ i. tree.one_else (h i)))
    (none_reads (λ rest. refl) refl)

pub maybe_continuing_reads : Reads (optional (symbol continuing_statement))
    (λ v rest. maybe_continuing_tokens (continuing_of v) rest)
    (λ w v. bare_maybe_continuing (continuing_of w) ≡ bare_maybe_continuing (full_maybe_continuing (continuing_of v)))
maybe_continuing_reads = or_reads (gives_reads (symbol_reads continuing_statement) (λ a rest. refl)
    (λ w a h. λ i. tree.one_continuing (h i))) (none_reads (λ rest. refl) refl)

-- a part of the header of a `for`
pub part_written : (s : StatementNode) (rest : List Kind)
    → part_tokens (tree.one_statement s) rest ≡ header_tokens s rest
part_written (statement_node s span) rest = refl

part_seen : (s : StatementNode) → tree.one_statement (seen_statement s) ≡ bare_part (full_part (tree.one_statement s))
part_seen (statement_node s span) = refl

pub part_reads : {g : Rule StatementNode}
    → Reads g header_tokens (λ w v. bare_statement_node w ≡ seen_statement v)
    → Reads (optional g) (λ v rest. part_tokens (maybe_statement v) rest)
    (λ w v. bare_part (maybe_statement w) ≡ bare_part (full_part (maybe_statement v)))
part_reads G = or_reads (gives_reads G part_written (λ w a h. ap tree.one_statement h ∙ part_seen a))
    (none_reads (λ rest. refl) refl)

-- ---- lists, as they are in a tree
pub else_ifs_written : (cs : List ElseIfClause) (rest : List Kind)
    → else_ifs_tokens (else_ifs_of cs) rest ≡ all_tokens else_if_clause_tokens cs rest
else_ifs_written [] rest = refl
else_ifs_written (c ∷ cs) rest = ap (else_if_clause_tokens c) (else_ifs_written cs rest)

pub else_ifs_bare : (cs : List ElseIfClause) → bare_else_ifs (else_ifs_of cs) ≡ else_ifs_of (map bare_else_if_clause cs)
else_ifs_bare [] = refl
else_ifs_bare (c ∷ cs) = ap (else_if_before (bare_else_if_clause c)) (else_ifs_bare cs)

else_ifs_seen : (cs : List ElseIfClause)
    → else_ifs_of (map (λ c. bare_else_if_clause (full_else_if_clause c)) cs)
    ≡ bare_else_ifs (full_else_ifs (else_ifs_of cs))
else_ifs_seen [] = refl
else_ifs_seen (c ∷ cs) = ap (else_if_before (bare_else_if_clause (full_else_if_clause c))) (else_ifs_seen cs)

pub else_ifs_read : Reads (many else_if) (λ v rest. else_ifs_tokens (else_ifs_of v) rest)
    (λ w v. bare_else_ifs (else_ifs_of w) ≡ bare_else_ifs (full_else_ifs (else_ifs_of v)))
else_ifs_read = equal_reads (many_reads else_if_reads) else_ifs_written
    (λ w v h. else_ifs_bare w ∙ ap else_ifs_of h ∙ else_ifs_seen v)

pub clauses_written : (cs : List SwitchClause) (rest : List Kind)
    → clauses_tokens (clauses_of cs) rest ≡ all_tokens switch_clause_tokens cs rest
clauses_written [] rest = refl
clauses_written (c ∷ cs) rest = ap (switch_clause_tokens c) (clauses_written cs rest)

pub clauses_bare : (cs : List SwitchClause) → bare_clauses (clauses_of cs) ≡ clauses_of (map bare_switch_clause cs)
clauses_bare [] = refl
clauses_bare (c ∷ cs) = ap (clause_before (bare_switch_clause c)) (clauses_bare cs)

clauses_seen : (cs : List SwitchClause)
    → clauses_of (map (λ c. bare_switch_clause (full_switch_clause c)) cs) ≡ bare_clauses (full_clauses (clauses_of cs))
clauses_seen [] = refl
clauses_seen (c ∷ cs) = ap (clause_before (bare_switch_clause (full_switch_clause c))) (clauses_seen cs)

pub clauses_read : Reads (several (symbol switch_clause)) (λ v rest. clauses_tokens (clauses_of v) rest)
    (λ w v. bare_clauses (clauses_of w) ≡ bare_clauses (full_clauses (clauses_of v)))
clauses_read = equal_reads (several_reads (symbol_reads switch_clause)) clauses_written
    (λ w v h. clauses_bare w ∙ ap clauses_of h ∙ clauses_seen v)

-- ---- statements, where empty ones are left out
-- a statement in a list
abbrev pub kept_tokens : Writer StatementNode
kept_tokens (statement_node s span) rest = if is_void s then rest else unended_tokens s (end_token s rest)

abbrev pub list_written : Writer (List StatementNode)
list_written ss rest = statements_tokens (statements_of ss) rest

-- the statements that are not empty, without spans
abbrev shown : List StatementNode → StatementNodes
shown ss = bare_statements (full_statements (statements_of ss))

abbrev followed : StatementNodes → StatementNode → StatementNodes
followed no_statements x = statement_before x no_statements
followed (statement_before s ss) x = statement_before s (followed ss x)

pub written_after : (ss : List StatementNode) (x : StatementNode) (rest : List Kind)
    → list_written (ss ++ (x ∷ [])) rest ≡ list_written ss (kept_tokens x rest)
written_after [] (statement_node s span) rest = refl
written_after (statement_node s span ∷ ss) x rest =
    ap (λ z. if is_void s then z else unended_tokens s (end_token s z)) (written_after ss x rest)

bare_after : (ss : List StatementNode) (x : StatementNode)
    → bare_statements (statements_of (ss ++ (x ∷ [])))
    ≡ followed (bare_statements (statements_of ss)) (bare_statement_node x)
bare_after [] x = refl
bare_after (s ∷ ss) x = ap (statement_before (bare_statement_node s)) (bare_after ss x)

-- a statement before others, if it is not empty
abbrev shown_before : Bool → StatementNode → StatementNodes → StatementNodes
shown_before b s ss = if b then ss else statement_before s ss

abbrev shown_last : Bool → StatementNodes → StatementNode → StatementNodes
shown_last b ss x = if b then ss else followed ss x

shown_first : (s : Statement) (span : Span) (ss : List StatementNode) → shown (statement_node s span ∷ ss)
    ≡ shown_before (is_void s) (seen_statement (statement_node s span)) (shown ss)
shown_first s span ss = by_case (is_void s) where
  by_case : (b : Bool) → bare_statements (if b then full_statements (statements_of ss)
      else statement_before (statement_node (full_statement s) span) (full_statements (statements_of ss)))
      ≡ shown_before b (seen_statement (statement_node s span)) (shown ss)
  by_case true = refl
  by_case false = refl

last_after : (b c : Bool) (s x : StatementNode) (ss : StatementNodes)
    → shown_before b s (shown_last c ss x) ≡ shown_last c (shown_before b s ss) x
last_after true c s x ss = refl
last_after false true s x ss = refl
last_after false false s x ss = refl

shown_after : (ss : List StatementNode) (s : Statement) (span : Span)
    → shown (ss ++ (statement_node s span ∷ []))
    ≡ shown_last (is_void s) (shown ss) (seen_statement (statement_node s span))
shown_after [] s span = shown_first s span []
shown_after (statement_node t place ∷ ss) s span =
    shown_first t place (ss ++ (statement_node s span ∷ []))
    ∙ ap (shown_before (is_void t) (seen_statement (statement_node t place))) (shown_after ss s span)
    ∙ last_after (is_void t) (is_void s) (seen_statement (statement_node t place))
    (seen_statement (statement_node s span)) (shown ss)
    ∙ ap (λ z. shown_last (is_void s) z (seen_statement (statement_node s span))) (sym (shown_first t place ss))

abbrev ListOutcome : List StatementNode → List Token → Type 0
ListOutcome v ys = Outcome statements list_written (λ w z. bare_statements (statements_of w) ≡ shown z) v ys

-- one more statement
one_more : (ss : List StatementNode) (s : Statement) (span : Span) (ys zs : List Token) → ListOutcome ss ys
    → Outcome (symbol statement) (write statement) (Same statement) (statement_node s span) zs
    → ListOutcome (ss ++ (statement_node s span ∷ [])) zs
one_more ss s span ys zs before last = (
  last.0,
  λ us ks e. by_case us ks (is_void s) (shown_after ss s span) (e ∙ written_after ss (statement_node s span) ks),
)
  where
    by_case : (us : List Token) (ks : List Kind) (b : Bool) → shown (ss ++ (statement_node s span ∷ []))
        ≡ shown_last b (shown ss) (seen_statement (statement_node s span))
        → map without_place us ≡ list_written ss (if b then ks else unended_tokens s (end_token s ks))
        → Found (Means checking D statements)
        (λ w. bare_statements (statements_of w) ≡ shown (ss ++ (statement_node s span ∷ []))) us ks
    by_case us ks true seen e =
        let x = before.1 us ks e in
        record { value = x.value; rest = x.rest; kinds = x.kinds; like = x.like ∙ sym seen; derived = x.derived }
    by_case us ks false seen e =
        let x = before.1 us (unended_tokens s (end_token s ks)) e in
        let y = last.1 x.rest ks x.kinds in
        record {
          value = x.value ++ (y.value ∷ []);
          rest = y.rest;
          kinds = y.kinds;
          like = bare_after x.value y.value ∙ ap₂ followed x.like y.like ∙ sym seen;
          derived = more x.value y.value x.rest y.rest x.derived y.derived;
        }

pub statements_read : Reads statements (λ ss rest. statements_tokens (statements_of ss) rest)
    (λ w v. bare_statements (statements_of w) ≡ bare_statements (full_statements (statements_of v)))
statements_read = record { again = λ v xs ys d words. go xs v ys d words } where
  none : Reads (empty []) list_written (λ w v. bare_statements (statements_of w) ≡ shown v)
  none = none_reads (λ rest. refl) refl

  go : (xs : List Token) (v : List StatementNode) (ys : List Token)
      → Means checking Again statements v xs ys → AllWords xs → ListOutcome v ys
  go xs _ _ (base a ys d) words =
      let found = none.again a xs ys d words in
      (found.0, λ us ks e. found_in (λ x rest i. base x rest i) (found.1 us ks e))
  go xs _ _ (more a (statement_node s span) ys zs c d) words =
      let before = go xs a ys c words in
      one_more a s span ys zs before ((symbol_reads statement).again (statement_node s span) ys zs d before.0)
