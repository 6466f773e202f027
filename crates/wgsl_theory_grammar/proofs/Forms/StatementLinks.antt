-- Statements, and the parts of a `for` header: both forms derive the same.
use Rattle.std.proofs.Common.{◌≡◌, List, ◌⊎◌, inl, inr, ap, ◌∙◌}
use Rattle.grammar.specs.Tokens.{Token, span_between}
use Rattle.grammar.specs.Grammar.{Grammar.symbol, Mode, Means, Part}
use Rattle.grammar.specs.Notation.{◌or◌}
use Rattle.grammar.proofs.Reading.Depth.{Kept, roll, unroll}
use Rattle.wgsl_model.specs.Trees.Statements.{StatementNode, Statement, statement, UnattributedStatement, unattributed}
use Rattle.wgsl_model.specs.Grammar.StatementParts.{placed_statement, leading}
use Rattle.wgsl_model.specs.Grammar.Symbols.{Dialect, Symbol.statement, Symbol.var_statement, Symbol.value_statement, Symbol.for_init, Symbol.for_update}
use Rattle.wgsl_model.specs.Grammar.Written.{rules}
use Rattle.wgsl_theory_grammar.specs.Factored.{Further.braced_part, Further.local_part, Further.value_part, Further.simple_part, FactoredSymbol.of, FactoredSymbol.further, FactoredRule, attributes_before, leading_before, factored}
use Rattle.wgsl_theory_grammar.proofs.Forms.AttributeLinks.{meant_list, leading_from, leading_kept, either_of}
use Rattle.wgsl_theory_grammar.proofs.Forms.Shifts.{Meant}
use Rattle.wgsl_theory_grammar.proofs.Forms.LevelLinks.{WrittenPart, ReadPart}
use Rattle.wgsl_theory_grammar.proofs.Forms.LeftSides.{read_simple, simple_in, enclosed_out, led_simple_out, simple_out}
use Rattle.wgsl_theory_grammar.proofs.Forms.StatementSteps.{ended_or_break, placed_simple_out}
use Rattle.wgsl_theory_grammar.proofs.Forms.StatementCases.{braced_out, ended_out}

pub statement_out : (L : Dialect) (M : Mode) (v : StatementNode) (xs ys : List Token)
    → Means M (Meant L M (WrittenPart L M)) (factored L (of statement)) v xs ys
    → Part M (rules L) statement v xs ys
statement_out L M v xs ys (inl (n, e, inl d)) = roll M (rules L) statement v xs ys (n, e, inl d)
statement_out L M v xs ys (inl (n, e, inr (u, r, (q, f, (ms, d, k))))) =
    let j : Statement × Token = (unattributed q.0, q.1) in
    placed_simple_out L M v n j xs ms ys e (ap unattributed f ∙ r) (enclosed_out L M q.0 xs ms d) k
statement_out L M v xs ys (inr (n, e, d)) = go (either_of L M
    (Meant L M (WrittenPart L M)) statement (symbol (further braced_part)) ended_or_break n xs ys d)
  where
    go : Means M (Meant L M (WrittenPart L M)) (attributes_before statement (symbol (further braced_part))) n xs ys
        ⊎ Means M (Meant L M (WrittenPart L M)) (leading_before L statement ended_or_break) n xs ys
        → Part M (rules L) statement v xs ys
    go (inl b) = braced_out L M v n xs ys e b
    go (inr b) = ended_out L M v n xs ys e b

-- ---- the parts of a `for` header
abbrev init_kinds : FactoredRule UnattributedStatement
init_kinds = symbol (further local_part) or symbol (further value_part) or symbol (further simple_part)

init_after : (L : Dialect) (M : Mode) (v : StatementNode) (n : Statement)
    (h : FactoredRule UnattributedStatement) (xs ys : List Token)
    → placed_statement n (span_between xs ys) ≡ v
    → Kept (Means M (Part M (factored L)) h) (Means M (Part M (factored L)) init_kinds)
    → Means M (Part M (factored L)) (leading_before L statement h) n xs ys
    → Part M (factored L) (of for_init) v xs ys
init_after L M v n h xs ys e H d = roll M (factored L) (of for_init) v xs ys
    (n, e, inr (leading_kept L M (Part M (factored L)) statement h init_kinds H n xs ys d))

pub init_in : (L : Dialect) (M : Mode) (v : StatementNode) (xs ys : List Token)
    → Means M (ReadPart L M) (rules L for_init) v xs ys → Part M (factored L) (of for_init) v xs ys
init_in L M v xs ys (n, e, inl d) = init_after L M v n (symbol (further local_part)) xs ys e
    (λ u us vs s. inl s) (unroll M (factored L) (of var_statement) n xs ys d)
init_in L M v xs ys (n, e, inr (inl d)) = init_after L M v n (symbol (further value_part)) xs ys e
    (λ u us vs s. inr (inl s)) (unroll M (factored L) (of value_statement) n xs ys d)
init_in L M v xs ys (n, e, inr (inr d)) = go (simple_in L M n xs ys d)
  where
    go : Means M (Part M (factored L)) (read_simple L) n xs ys → Part M (factored L) (of for_init) v xs ys
    go (inl s) = roll M (factored L) (of for_init) v xs ys (n, e, inl s)
    go (inr s) = init_after L M v n (symbol (further simple_part)) xs ys e (λ u us vs s. inr (inr s)) s

pub init_out : (L : Dialect) (M : Mode) (v : StatementNode) (xs ys : List Token)
    → Means M (Meant L M (WrittenPart L M)) (factored L (of for_init)) v xs ys
    → Part M (rules L) for_init v xs ys
init_out L M v xs ys (n, e, inl d) = roll M (rules L) for_init v xs ys
    (n, e, inr (inr (simple_out L M n xs ys (inl d))))
init_out L M v xs ys (n, e, inr (p, q, (ks, l, s))) = go s
  where
    leads : Means M (WrittenPart L M) (leading L) p.0 xs ks
    leads = leading_from L M (WrittenPart L M) (Meant L M (WrittenPart L M)) (meant_list L M) p.0 xs ks l

    go : Means M (Meant L M (WrittenPart L M)) init_kinds p.1 ks ys → Part M (rules L) for_init v xs ys
    go (inl d) = roll M (rules L) for_init v xs ys
        (n, e, inl (roll M (rules L) var_statement n xs ys (p, q, (ks, leads, d))))
    go (inr (inl d)) = roll M (rules L) for_init v xs ys
        (n, e, inr (inl (roll M (rules L) value_statement n xs ys (p, q, (ks, leads, d)))))
    go (inr (inr d)) = roll M (rules L) for_init v xs ys
        (n, e, inr (inr (led_simple_out L M n xs ys (p, q, (ks, l, d)))))

pub update_in : (L : Dialect) (M : Mode) (v : StatementNode) (xs ys : List Token)
    → Means M (ReadPart L M) (rules L for_update) v xs ys → Part M (factored L) (of for_update) v xs ys
update_in L M v xs ys (n, e, d) = roll M (factored L) (of for_update) v xs ys (n, e, simple_in L M n xs ys d)

pub update_out : (L : Dialect) (M : Mode) (v : StatementNode) (xs ys : List Token)
    → Means M (Meant L M (WrittenPart L M)) (factored L (of for_update)) v xs ys
    → Part M (rules L) for_update v xs ys
update_out L M v xs ys (n, e, d) = roll M (rules L) for_update v xs ys (n, e, simple_out L M n xs ys d)
