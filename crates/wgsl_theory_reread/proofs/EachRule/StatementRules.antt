-- How parts of statements, and rules that RuleTerms leaves out, are read again. Those with
-- attributes
-- take what is proved of one attribute.
use Rattle.std.proofs.Common.{◌≡◌, true, List, [], ◌∷◌, Option, refl, ap, subst, ◌∙◌, inl, inr, sym, map}
use Rattle.std.specs.Option.{option_map}
use Rattle.grammar.specs.Tokens.{Token}
use Rattle.grammar.specs.Grammar.{Grammar.symbol, Mode.checking, Chain.base, Means, is_among}
use Rattle.grammar.specs.Notation.{one_token, ◌then◌, ◌or◌, ◌gives◌, ◌makes◌, ◌▹◌, ◌◃◌, ◌means◌, optional, list}
use Rattle.grammar.proofs.Reading.Depth.{roll}
use Rattle.wgsl_model.specs.Tokens.ClassTable.{SymBraceRight, SymColon, SymComma, SymSemicolon, SymUnderscore, KwCase, KwConst, KwConstAssert, KwContinuing, KwDefault, KwLet}
use Rattle.wgsl_model.specs.Tokens.Kind.{plain, Kind}
use Rattle.wgsl_model.specs.Trees.Attributed.{Attributed}
use Rattle.wgsl_model.specs.Trees.Statements as tree
use Rattle.wgsl_model.specs.Trees.Statements.{DeclarationKind.let_kind, DeclarationKind.const_kind, CompoundStatement, Statement, UnattributedStatement, StatementNode.statement_node, CaseSelector.default_selector, BreakIfStatement, CaseSelector, assert_of, continuing_statement_of}
use Rattle.wgsl_model.specs.Grammar.StatementParts.{placed_statement, attributed, underscore_at, left_side}
use Rattle.wgsl_model.specs.Trees.WithoutSpans.{no_span, bare_expression_node, bare_attributes}
use Rattle.wgsl_model.specs.Trees.StatementsWithoutSpans.{bare_statement_node, bare_statement, bare_compound, bare_unattributed, bare_attributed, bare_assert, bare_break_if, bare_selector, bare_continuing}
use Rattle.wgsl_model.specs.Trees.EmptyItems.{full_statement, full_compound, full_unattributed, full_continuing}
use Rattle.wgsl_model.specs.Grammar.Symbols.{Symbol.compound_statement, Symbol.switch_clause, Symbol.case_selector, Rule, expression, Dialect.parsed}
use Rattle.wgsl_model.specs.Grammar.Written.{written}
use Rattle.wgsl_theory_reread.specs.CanonicalExpressions.{Writer, expression_node_tokens, optional_tokens, list_tokens}
use Rattle.wgsl_theory_reread.specs.CanonicalAttributes.{attributes_tokens}
use Rattle.wgsl_theory_reread.specs.CanonicalStatements.{kind_tokens, end_token, unended_tokens, unattributed_tokens, compound_tokens, assert_tokens, selector_tokens, break_if_tokens, opened_tokens, continuing_tokens, statement_tokens}
use Rattle.wgsl_theory_reread.proofs.Words.{AllWords}
use Rattle.wgsl_theory_reread.proofs.Again.{D, header_tokens, seen_statement, write, Same, Ended, Unended, Finds, Again}
use Rattle.wgsl_theory_reread.proofs.Ways.{Outcome, Reads, found_in, first_of, class_of, then_reads, or_reads, gives_reads, makes_reads, sign_reads, before_reads, after_reads, means_reads, no_sign_reads, list_reads}
use Rattle.wgsl_theory_reread.proofs.Rules.{AttributeReads, attributes_read, without_known, symbol_reads}
use Rattle.wgsl_theory_reread.proofs.EachRule.ExpressionRules.{open_left_side_reads, parenthesized_left_side_reads}

-- ---- blocks and their parts
-- `continuing` from its word on: its body, and its `break if`
abbrev pub ContinuingParts : Type 0
ContinuingParts = CompoundStatement × Option (Attributed BreakIfStatement)

abbrev pub continuing_part_tokens : Writer ContinuingParts
continuing_part_tokens p rest = plain KwContinuing
    ∷ opened_tokens p.0 (optional_tokens break_if_tokens p.1 (plain SymBraceRight ∷ rest))

-- the same, ignoring spans and empty items
abbrev pub LikeBody : ContinuingParts → ContinuingParts → Type 0
LikeBody w v = (bare_compound w.0 ≡ bare_compound (full_compound v.0))
    × (option_map (bare_attributed bare_break_if) w.1 ≡ option_map (bare_attributed bare_break_if) v.1)

pub continuing_reads : AttributeReads → {g : Rule ContinuingParts} → Reads g continuing_part_tokens LikeBody
    → Reads (attributed continuing_statement_of g) continuing_tokens
    (λ w v. bare_continuing w ≡ bare_continuing (full_continuing v))
continuing_reads one G = gives_reads (then_reads (attributes_read one) G) (λ a rest. refl)
    (λ w a h. λ i. tree.continuing (h.0 i) (h.1.0 i) (h.1.1 i))

-- ---- statements after attributes
-- statements that are the same, ignoring spans and empty items
abbrev pub Like : Statement → Statement → Type 0
Like w v = bare_statement w ≡ bare_statement (full_statement v)

-- the same after attributes
abbrev pub LikeAfter : UnattributedStatement → UnattributedStatement → Type 0
LikeAfter w v = bare_unattributed w ≡ bare_unattributed (full_unattributed v)

pub attributed_reads : AttributeReads → {g : Rule UnattributedStatement}
    → Reads g unattributed_tokens LikeAfter → Reads (attributed tree.statement g) unended_tokens Like
attributed_reads one G = gives_reads (then_reads (attributes_read one) G) (λ a rest. refl)
    (λ w a h. λ i. tree.statement (h.0 i) (h.1 i))

-- ---- statements that a `;` ends
pub value_kind_reads : Reads (KwLet means let_kind or KwConst means const_kind) kind_tokens (λ w v. w ≡ v)
value_kind_reads = or_reads (means_reads KwLet refl (λ rest. refl) refl) (means_reads KwConst refl (λ rest. refl) refl)

-- a left side after attributes
pub left_side_reads : AttributeReads
    → Reads (left_side parsed) (λ p rest. attributes_tokens p.0 (expression_node_tokens p.1 rest))
    (λ w v. (bare_attributes w.0 ≡ bare_attributes v.0) × (bare_expression_node w.1 ≡ bare_expression_node v.1))
left_side_reads one = or_reads (then_reads (attributes_read one) open_left_side_reads)
    (gives_reads parenthesized_left_side_reads (λ a rest. refl) (λ w a h. (refl, h)))

pub assert_reads : Reads (KwConstAssert ▹ symbol expression gives assert_of) assert_tokens
    (λ w v. bare_assert w ≡ bare_assert v)
assert_reads = gives_reads (before_reads KwConstAssert refl (symbol_reads expression))
    (λ a rest. refl) (λ w a h. λ i. record { expression = h i })

-- ---- the phony assignment, whose left side is the identifier `_`
pub underscore_reads : Reads (one_token SymUnderscore makes underscore_at) expression_node_tokens
    (λ w v. bare_expression_node w ≡ bare_expression_node v)
underscore_reads = makes_reads (sign_reads SymUnderscore refl) (λ a span rest. refl) (λ w a s r h. refl)

-- ---- clauses: the optional colon is left out, and `default` alone is written `case default`
-- a block after the optional colon
abbrev pub clause_body : Rule (Option Token × CompoundStatement)
clause_body = optional (one_token SymColon) then symbol compound_statement

-- what a clause selects, and its block
abbrev pub ClauseParts : Type 0
ClauseParts = List CaseSelector × CompoundStatement

abbrev pub case_clause : Rule ClauseParts
case_clause = KwCase ▹ list SymComma (symbol case_selector) then clause_body gives λ p. (p.0, p.1.1)

abbrev pub default_clause : Rule ClauseParts
default_clause = KwDefault ▹ clause_body gives λ p. (default_selector ∷ [], p.1)

abbrev pub clause_tokens : Writer ClauseParts
clause_tokens p rest = plain KwCase ∷ list_tokens selector_tokens p.0 (compound_tokens p.1 rest)

abbrev LikeClause : ClauseParts → ClauseParts → Type 0
LikeClause w v = (map bare_selector w.0 ≡ map bare_selector v.0)
    × (bare_compound w.1 ≡ bare_compound (full_compound v.1))

clause_body_reads : Reads clause_body (λ p rest. compound_tokens p.1 rest)
    (λ w v. Unit {0} × (bare_compound w.1 ≡ bare_compound (full_compound v.1)))
clause_body_reads = then_reads no_sign_reads (symbol_reads compound_statement)

case_clause_reads : Reads case_clause clause_tokens LikeClause
case_clause_reads = gives_reads
    (before_reads KwCase refl (then_reads (list_reads (symbol_reads case_selector)) clause_body_reads))
    (λ a rest. refl) (λ w a h. (h.0, h.1.1))

-- `case` before `default` and its block
case_default : (p : Option Token × CompoundStatement) (t : Token) (xs zs ys : List Token)
    → is_among t.class (KwCase ∷ []) ≡ true → xs ≡ t ∷ zs
    → Means checking D (KwDefault ▹ clause_body) p zs ys
    → Means checking D case_clause (default_selector ∷ [], p.1) xs ys
case_default p t xs zs ys known e d =
    let selected : Means checking D (list SymComma (symbol case_selector))
    (default_selector ∷ []) zs d.2.0 = inl (base (default_selector ∷ []) d.2.0 (
      default_selector,
      refl,
      roll checking written case_selector default_selector zs d.2.0 (inl (d.0.0, refl, d.2.1)),
    )) in
    let body : Means checking D clause_body p d.2.0 ys = subst
    (λ (z : Option Token × CompoundStatement). Means checking D clause_body z d.2.0 ys) d.1 d.2.2 in (
      (default_selector ∷ [], p),
      refl,
      ((t, (default_selector ∷ [], p)), refl, (zs, (known, e), (d.2.0, selected, body))),
    )

default_clause_reads : (v : ClauseParts) (xs ys : List Token) → Means checking Again default_clause v xs ys
    → AllWords xs → Outcome case_clause clause_tokens LikeClause v ys
default_clause_reads v xs ys d words =
    subst (λ (z : ClauseParts). Outcome case_clause clause_tokens LikeClause z ys) d.1 (
    let found = (before_reads KwDefault refl clause_body_reads).again d.0 xs ys d.2 words in (
      found.0,
      λ us ks e.
          let first = first_of (plain KwCase) (plain KwDefault ∷ compound_tokens d.0.1 ks) us e in
          let a = found.1 first.rest ks first.kinds in
          record {
            value = (default_selector ∷ [], a.value.1);
            rest = a.rest;
            kinds = a.kinds;
            like = (refl, a.like.1);
            derived = case_default a.value first.token us first.rest a.rest
                (class_of (plain KwCase) first.token (KwCase ∷ []) first.kind refl) first.whole a.derived;
          },
    )
    )

clause_reads : Reads (case_clause or default_clause) clause_tokens LikeClause
clause_reads = record { again = go } where
  as_case : (v : ClauseParts) (ys : List Token) → Outcome case_clause clause_tokens LikeClause v ys
      → Outcome (case_clause or default_clause) clause_tokens LikeClause v ys
  as_case v ys found = (found.0, λ us ks e. found_in (λ a rest i. inl i) (found.1 us ks e))

  go : (v : ClauseParts) (xs ys : List Token) → Means checking Again (case_clause or default_clause) v xs ys
      → AllWords xs → Outcome (case_clause or default_clause) clause_tokens LikeClause v ys
  go v xs ys (inl d) words = as_case v ys (case_clause_reads.again v xs ys d words)
  go v xs ys (inr d) words = as_case v ys (default_clause_reads v xs ys d words)

pub switch_clause_reads : AttributeReads → Reads (written switch_clause) (write switch_clause) (Same switch_clause)
switch_clause_reads one = gives_reads (then_reads (attributes_read one) clause_reads)
    (λ a rest. refl) (λ w a h. λ i. tree.switch_clause (h.0 i) (h.1.0 i) (h.1.1 i))

-- ---- statements, with the `;` that ends them and without
abbrev pub ended_tokens : Writer Statement
ended_tokens s rest = unended_tokens s (end_token s rest)

-- statements that are read again without their `;`, with a side fact
abbrev pub ReadsWith : (Statement → Type 0) → Rule Statement → Type 0
ReadsWith P g = (v : Statement) (xs ys : List Token) → Means checking Again g v xs ys → AllWords xs
    → AllWords ys × P v × Finds (Means checking D g) (λ w. Like w v) (unended_tokens v)

header_reads : {P : Statement → Type 0} {g : Rule Statement} → ReadsWith P g → Reads g unended_tokens Like
header_reads f = record { again = λ v xs ys d words. without_known (f v xs ys d words) }

pub ended_reads : {g : Rule Statement} → ReadsWith Ended g → Reads (g ◃ SymSemicolon) ended_tokens Like
ended_reads {g} f = record {
  again = λ v xs ys d words.
      let found = (after_reads SymSemicolon refl (header_reads {P = Ended} {g = g} f)).again v xs ys d words in
      let ended : Ended v = subst Ended d.1 (f d.0.0 xs d.2.0 d.2.1 words).1 in
      (found.0, λ us ks e. found.1 us ks (e ∙ ap (unended_tokens v) (ended.1 ks)));
}

pub unended_reads : {g : Rule Statement} → ReadsWith Unended g → Reads g ended_tokens Like
unended_reads {g} f = record {
  again = λ v xs ys d words.
      let found = f v xs ys d words in
      (found.0, λ us ks e. found.2 us ks (e ∙ ap (unended_tokens v) (found.1.1 ks)));
}

-- a block as a statement
block_written : (b : CompoundStatement) (rest : List Kind)
    → ended_tokens (tree.block_statement b) rest ≡ compound_tokens b rest
block_written (tree.compound_statement attributes ss) rest = refl

pub block_bare : (b : CompoundStatement)
    → bare_statement (tree.block_statement b) ≡ tree.block_statement (bare_compound b)
block_bare (tree.compound_statement attributes ss) = refl

block_full : (b : CompoundStatement) → full_statement (tree.block_statement b) ≡ tree.block_statement (full_compound b)
block_full (tree.compound_statement attributes ss) = refl

pub block_reads : Reads (symbol compound_statement gives tree.block_statement) ended_tokens Like
block_reads = gives_reads (symbol_reads compound_statement) block_written
    (λ w a h. block_bare w ∙ ap tree.block_statement h ∙ sym (block_bare (full_compound a))
    ∙ sym (ap bare_statement (block_full a)))

-- ---- statements and where they are: in a list, and in the header of a `for`
pub item_reads : {g : Rule Statement} → Reads g ended_tokens Like
    → Reads (g makes placed_statement) statement_tokens (λ w v. bare_statement_node w ≡ seen_statement v)
item_reads G = makes_reads {writes = ended_tokens} {like = Like} G (λ a span rest. refl)
    (λ w a s r h. λ i. statement_node (h i) no_span)

pub part_of_header_reads : {g : Rule Statement} → Reads g unended_tokens Like
    → Reads (g makes placed_statement) header_tokens (λ w v. bare_statement_node w ≡ seen_statement v)
part_of_header_reads G = makes_reads {writes = unended_tokens} {like = Like} G (λ a span rest. refl)
    (λ w a s r h. λ i. statement_node (h i) no_span)
