-- Written by tools/tables/statement_links.py: each of a choice of statements in the other form.
use Rattle.grammar.proofs.Reading.Depth.{roll, unroll}
use Rattle.grammar.specs.Grammar.{Grammar.symbol, Means, Mode, Part}
use Rattle.grammar.specs.Notation.{◌means◌}
use Rattle.grammar.specs.Tokens.{Token, span_between}
use Rattle.std.proofs.Common.{List, ap, inl, inr, refl, ◌∙◌, ◌≡◌}
use Rattle.wgsl_model.specs.Grammar.StatementParts.{leading, placed_statement}
use Rattle.wgsl_model.specs.Grammar.Symbols.{Dialect, Symbol.break_statement, Symbol.continue_statement, Symbol.discard_statement, Symbol.for_statement, Symbol.if_statement, Symbol.loop_statement, Symbol.return_statement, Symbol.statement, Symbol.switch_statement, Symbol.value_statement, Symbol.var_statement, Symbol.while_statement}
use Rattle.wgsl_model.specs.Grammar.Written.{rules}
use Rattle.wgsl_model.specs.Tokens.ClassTable.{KwBreak, KwContinue, KwDiscard}
use Rattle.wgsl_model.specs.Trees.Attributes.{Attributes}
use Rattle.wgsl_model.specs.Trees.Statements.{Statement, StatementNode, UnattributedStatement, statement}
use Rattle.wgsl_theory_grammar.proofs.Forms.AttributeLinks.{leading_from, meant_list}
use Rattle.wgsl_theory_grammar.proofs.Forms.LevelLinks.{ReadPart, WrittenPart}
use Rattle.wgsl_theory_grammar.proofs.Forms.Shifts.{Meant}
use Rattle.wgsl_theory_grammar.proofs.Forms.StatementPlaces.{braced_for, braced_if, braced_loop, braced_switch, braced_while, ended_break, ended_continue, ended_discard, ended_local, ended_returning, ended_value, placed_break, placed_continue, placed_discard, placed_for, placed_if, placed_loop, placed_return, placed_switch, placed_value, placed_var, placed_while}
use Rattle.wgsl_theory_grammar.proofs.Forms.StatementSteps.{after_in, block_out, braced_in, closed_in, compound_in, const_assert_in, ended_assert_out, ended_or_break, ended_simple_out, placed_simple_in, semicolon_in}
use Rattle.wgsl_theory_grammar.specs.Factored.{FactoredSymbol.further, FactoredSymbol.of, Further.braced_part, Further.for_part, Further.if_part, Further.local_part, Further.loop_part, Further.returning_part, Further.switch_part, Further.value_part, Further.while_part, attributes_before, factored, leading_before}

pub statement_in : (L : Dialect) (M : Mode) (v : StatementNode) (xs ys : List Token)
    → Means M (ReadPart L M) (rules L statement) v xs ys → Part M (factored L) (of statement) v xs ys
statement_in L M v xs ys (n, e, inl d) = semicolon_in L M v n xs ys e d
statement_in L M v xs ys (n, e, inr (inl ((q, f, (ms, d, k))))) = after_in L M v n xs ys e
    (closed_in L M (symbol (further returning_part)) (ended_returning L M) n q xs ms ys f
    (unroll M (factored L) (of return_statement) q.0 xs ms d) k)
statement_in L M v xs ys (n, e, inr (inr (inl d))) = after_in L M v n xs ys e (braced_in L M
    (symbol (further if_part)) (braced_if L M) n xs ys (unroll M (factored L) (of if_statement) n xs ys d))
statement_in L M v xs ys (n, e, inr (inr (inr (inl d)))) = after_in L M v n xs ys e
    (braced_in L M (symbol (further switch_part)) (braced_switch L M) n xs ys
    (unroll M (factored L) (of switch_statement) n xs ys d))
statement_in L M v xs ys (n, e, inr (inr (inr (inr (inl d))))) = after_in L M v n xs ys e
    (braced_in L M (symbol (further loop_part)) (braced_loop L M) n xs ys
    (unroll M (factored L) (of loop_statement) n xs ys d))
statement_in L M v xs ys (n, e, inr (inr (inr (inr (inr (inl d)))))) = after_in L M v n xs ys e
    (braced_in L M (symbol (further for_part)) (braced_for L M) n xs ys
    (unroll M (factored L) (of for_statement) n xs ys d))
statement_in L M v xs ys (n, e, inr (inr (inr (inr (inr (inr (inl d))))))) =
    after_in L M v n xs ys e (braced_in L M (symbol (further while_part)) (braced_while L M) n xs ys
    (unroll M (factored L) (of while_statement) n xs ys d))
statement_in L M v xs ys (n, e, inr (inr (inr (inr (inr (inr (inr (inl ((q, f, (ms, d, k))))))))))) =
    placed_simple_in L M v n q xs ms ys e f (inr (inr (inr (inr d)))) k
statement_in L M v xs ys (n, e, inr (inr (inr (inr (inr (inr (inr (inr (inl ((q, f, (ms, d, k)))))))))))) =
    after_in L M v n xs ys e (closed_in L M (symbol (further local_part))
    (ended_local L M) n q xs ms ys f (unroll M (factored L) (of var_statement) q.0 xs ms d) k)
statement_in L M v xs ys (n, e, inr (inr (inr (inr (inr (inr (inr (inr (inr (inl ((q, f, (ms, d, k))))))))))))) =
    after_in L M v n xs ys e (closed_in L M (symbol (further value_part))
    (ended_value L M) n q xs ms ys f (unroll M (factored L) (of value_statement) q.0 xs ms d) k)
statement_in L M v xs ys (n, e, inr (inr (inr (inr (inr (inr (inr (inr (inr (inr (inl ((q, f, (ms, d, k)))))))))))))) =
    after_in L M v n xs ys e (closed_in L M (KwBreak means UnattributedStatement.break_statement)
    (ended_break L M) n q xs ms ys f (unroll M (factored L) (of break_statement) q.0 xs ms d) k)
statement_in L M v xs ys
    (n, e, inr (inr (inr (inr (inr (inr (inr (inr (inr (inr (inr (inl ((q, f, (ms, d, k))))))))))))))) =
    after_in L M v n xs ys e (closed_in L M (KwContinue means UnattributedStatement.continue_statement)
    (ended_continue L M) n q xs ms ys f (unroll M (factored L) (of continue_statement) q.0 xs ms d) k)
statement_in L M v xs ys
    (n, e, inr (inr (inr (inr (inr (inr (inr (inr (inr (inr (inr (inr (inl ((q, f, (ms, d, k)))))))))))))))) =
    after_in L M v n xs ys e (closed_in L M (KwDiscard means UnattributedStatement.discard_statement)
    (ended_discard L M) n q xs ms ys f (unroll M (factored L) (of discard_statement) q.0 xs ms d) k)
statement_in L M v xs ys
    (n, e, inr (inr (inr (inr (inr (inr (inr (inr (inr (inr (inr (inr (inr (inl ((q, f, (ms, d, k))))))))))))))))) =
    placed_simple_in L M v n q xs ms ys e f (inl d) k
statement_in L M v xs ys (
  n,
  e,
  inr (inr (inr (inr (inr (inr (inr (inr (inr (inr (inr (inr (inr (inr (inl ((q, f, (ms, d, k))))))))))))))))),
) = placed_simple_in L M v n q xs ms ys e f (inr (inl d)) k
statement_in L M v xs ys (
  n,
  e,
  inr (inr (inr (inr (inr (inr (inr (inr (inr (inr (inr (inr (inr (inr (inr (inl ((q, f, (ms, d, k)))))))))))))))))),
) = placed_simple_in L M v n q xs ms ys e f (inr (inr (inl d))) k
statement_in L M v xs ys (
  n,
  e,
  inr (inr (inr (inr (inr (inr
      (inr (inr (inr (inr (inr (inr (inr (inr (inr (inr (inl ((q, f, (ms, d, k))))))))))))))))))),
) = placed_simple_in L M v n q xs ms ys e f (inr (inr (inr (inl d)))) k
statement_in L M v xs ys (
  n,
  e,
  inr (inr (inr (inr (inr (inr (inr (inr (inr (inr (inr (inr (inr (inr (inr (inr (inr (inl d))))))))))))))))),
) = compound_in L M v n xs ys e d
statement_in L M v xs ys (
  n,
  e,
  inr (inr (inr (inr (inr (inr (inr (inr (inr (inr (inr (inr (inr (inr (inr (inr (inr (inr d))))))))))))))))),
) = const_assert_in L M v n xs ys e d

pub braced_out : (L : Dialect) (M : Mode) (v : StatementNode) (n : Statement) (xs ys : List Token)
    → placed_statement n (span_between xs ys) ≡ v
    → Means M (Meant L M (WrittenPart L M)) (attributes_before statement (symbol (further braced_part))) n xs ys
    → Part M (rules L) statement v xs ys
braced_out L M v n xs ys e (p, q, (ks, a, inl d)) = placed_if L M v n xs ys e
    (roll M (rules L) if_statement n xs ys (p, q, (ks, a, d)))
braced_out L M v n xs ys e (p, q, (ks, a, inr (inl d))) = placed_switch L M v n xs ys e
    (roll M (rules L) switch_statement n xs ys (p, q, (ks, a, d)))
braced_out L M v n xs ys e (p, q, (ks, a, inr (inr (inl d)))) = placed_loop L M v n xs ys e
    (roll M (rules L) loop_statement n xs ys (p, q, (ks, a, d)))
braced_out L M v n xs ys e (p, q, (ks, a, inr (inr (inr (inl d))))) = placed_for L M v n xs ys e
    (roll M (rules L) for_statement n xs ys (p, q, (ks, a, d)))
braced_out L M v n xs ys e (p, q, (ks, a, inr (inr (inr (inr (inl d)))))) =
    placed_while L M v n xs ys e (roll M (rules L) while_statement n xs ys (p, q, (ks, a, d)))
braced_out L M v n xs ys e (p, q, (ks, a, inr (inr (inr (inr (inr d)))))) = block_out L M v n xs ys e p q ks a d

pub ended_out : (L : Dialect) (M : Mode) (v : StatementNode) (n : Statement) (xs ys : List Token)
    → placed_statement n (span_between xs ys) ≡ v
    → Means M (Meant L M (WrittenPart L M)) (leading_before L statement ended_or_break) n xs ys
    → Part M (rules L) statement v xs ys
ended_out L M v n xs ys e (p, q, (ks, l, s)) = go s
  where
    leads : Means M (WrittenPart L M) (leading L) p.0 xs ks
    leads = leading_from L M (WrittenPart L M) (Meant L M (WrittenPart L M)) (meant_list L M) p.0 xs ks l

    go : Means M (Meant L M (WrittenPart L M)) ended_or_break p.1 ks ys → Part M (rules L) statement v xs ys
    go (inl (w, f, (ms, inl d, k))) =
        let i : Attributes × UnattributedStatement = (p.0, w.0) in
        let j : Statement × Token = (statement p.0 w.0, w.1) in placed_return L M v n xs ys e
        (j, ap (statement p.0) f ∙ q, (ms, roll M (rules L) return_statement j.0 xs ms (i, refl, (ks, leads, d)), k))
    go (inl (w, f, (ms, inr (inl d), k))) =
        let i : Attributes × UnattributedStatement = (p.0, w.0) in
        let j : Statement × Token = (statement p.0 w.0, w.1) in placed_var L M v n xs ys e
        (j, ap (statement p.0) f ∙ q, (ms, roll M (rules L) var_statement j.0 xs ms (i, refl, (ks, leads, d)), k))
    go (inl (w, f, (ms, inr (inr (inl d)), k))) =
        let i : Attributes × UnattributedStatement = (p.0, w.0) in
        let j : Statement × Token = (statement p.0 w.0, w.1) in placed_value L M v n xs ys e
        (j, ap (statement p.0) f ∙ q, (ms, roll M (rules L) value_statement j.0 xs ms (i, refl, (ks, leads, d)), k))
    go (inl (w, f, (ms, inr (inr (inr (inl d))), k))) =
        let i : Attributes × UnattributedStatement = (p.0, w.0) in
        let j : Statement × Token = (statement p.0 w.0, w.1) in placed_continue L M v n xs ys e
        (j, ap (statement p.0) f ∙ q, (ms, roll M (rules L) continue_statement j.0 xs ms (i, refl, (ks, leads, d)), k))
    go (inl (w, f, (ms, inr (inr (inr (inr (inl d)))), k))) =
        let i : Attributes × UnattributedStatement = (p.0, w.0) in
        let j : Statement × Token = (statement p.0 w.0, w.1) in placed_discard L M v n xs ys e
        (j, ap (statement p.0) f ∙ q, (ms, roll M (rules L) discard_statement j.0 xs ms (i, refl, (ks, leads, d)), k))
    go (inl (w, f, (ms, inr (inr (inr (inr (inr (inl d))))), k))) =
        ended_simple_out L M v n xs ys e p.0 w (ap (statement p.0) f ∙ q) ks ms l d k
    go (inl (w, f, (ms, inr (inr (inr (inr (inr (inr d))))), k))) =
        ended_assert_out L M v n xs ys e p.0 w (ap (statement p.0) f ∙ q) ks ms l d k
    go (inr (w, f, (ms, d, k))) =
        let i : Attributes × UnattributedStatement = (p.0, w.0) in
        let j : Statement × Token = (statement p.0 w.0, w.1) in placed_break L M v n xs ys e
        (j, ap (statement p.0) f ∙ q, (ms, roll M (rules L) break_statement j.0 xs ms (i, refl, (ks, leads, d)), k))
