-- Written by tools/tables/statement_links.py: kinds of statements as one of a choice.
use Rattle.grammar.proofs.Reading.Depth.{Kept, roll}
use Rattle.grammar.specs.Grammar.{Grammar.symbol, Means, Mode, Part}
use Rattle.grammar.specs.Notation.{◌gives◌, ◌means◌, ◌or◌, ◌◃◌}
use Rattle.grammar.specs.Tokens.{Token, span_between}
use Rattle.std.proofs.Common.{List, inl, inr, ◌≡◌}
use Rattle.wgsl_model.specs.Grammar.StatementParts.{placed_statement}
use Rattle.wgsl_model.specs.Grammar.Symbols.{Dialect, Symbol.assignment, Symbol.break_statement, Symbol.call_statement, Symbol.compound_statement, Symbol.const_assert, Symbol.continue_statement, Symbol.decrement, Symbol.discard_statement, Symbol.for_statement, Symbol.if_statement, Symbol.increment, Symbol.loop_statement, Symbol.phony_assignment, Symbol.return_statement, Symbol.statement, Symbol.switch_statement, Symbol.value_statement, Symbol.var_statement, Symbol.while_statement}
use Rattle.wgsl_model.specs.Grammar.Written.{rules}
use Rattle.wgsl_model.specs.Tokens.ClassTable.{KwContinue, KwDiscard, SymSemicolon}
use Rattle.wgsl_model.specs.Trees.Statements.{Statement, StatementNode, UnattributedStatement, assert_statement, block_statement, statement, unattributed}
use Rattle.wgsl_theory_grammar.proofs.Forms.LevelLinks.{WrittenPart}
use Rattle.wgsl_theory_grammar.specs.Factored.{FactoredSymbol.further, Further.assert_part, Further.block_part, Further.braced_part, Further.ended_part, Further.for_part, Further.if_part, Further.local_part, Further.loop_part, Further.returning_part, Further.simple_part, Further.switch_part, Further.value_part, Further.while_part, break_part, factored}

pub placed_semicolon : (L : Dialect) (M : Mode) (v : StatementNode) (n : Statement) (xs ys : List Token)
    → placed_statement n (span_between xs ys) ≡ v
    → Means M (WrittenPart L M) (SymSemicolon means unattributed UnattributedStatement.void) n xs ys
    → Part M (rules L) statement v xs ys
placed_semicolon L M v n xs ys e d = roll M (rules L) statement v xs ys (n, e, inl d)

pub placed_return : (L : Dialect) (M : Mode) (v : StatementNode) (n : Statement) (xs ys : List Token)
    → placed_statement n (span_between xs ys) ≡ v
    → Means M (WrittenPart L M) (symbol return_statement ◃ SymSemicolon) n xs ys → Part M (rules L) statement v xs ys
placed_return L M v n xs ys e d = roll M (rules L) statement v xs ys (n, e, inr (inl d))

pub placed_if : (L : Dialect) (M : Mode) (v : StatementNode) (n : Statement) (xs ys : List Token)
    → placed_statement n (span_between xs ys) ≡ v
    → Means M (WrittenPart L M) (symbol if_statement) n xs ys → Part M (rules L) statement v xs ys
placed_if L M v n xs ys e d = roll M (rules L) statement v xs ys (n, e, inr (inr (inl d)))

pub placed_switch : (L : Dialect) (M : Mode) (v : StatementNode) (n : Statement) (xs ys : List Token)
    → placed_statement n (span_between xs ys) ≡ v
    → Means M (WrittenPart L M) (symbol switch_statement) n xs ys → Part M (rules L) statement v xs ys
placed_switch L M v n xs ys e d = roll M (rules L) statement v xs ys (n, e, inr (inr (inr (inl d))))

pub placed_loop : (L : Dialect) (M : Mode) (v : StatementNode) (n : Statement) (xs ys : List Token)
    → placed_statement n (span_between xs ys) ≡ v
    → Means M (WrittenPart L M) (symbol loop_statement) n xs ys → Part M (rules L) statement v xs ys
placed_loop L M v n xs ys e d = roll M (rules L) statement v xs ys (n, e, inr (inr (inr (inr (inl d)))))

pub placed_for : (L : Dialect) (M : Mode) (v : StatementNode) (n : Statement) (xs ys : List Token)
    → placed_statement n (span_between xs ys) ≡ v
    → Means M (WrittenPart L M) (symbol for_statement) n xs ys → Part M (rules L) statement v xs ys
placed_for L M v n xs ys e d = roll M (rules L) statement v xs ys (n, e, inr (inr (inr (inr (inr (inl d))))))

pub placed_while : (L : Dialect) (M : Mode) (v : StatementNode) (n : Statement) (xs ys : List Token)
    → placed_statement n (span_between xs ys) ≡ v
    → Means M (WrittenPart L M) (symbol while_statement) n xs ys → Part M (rules L) statement v xs ys
placed_while L M v n xs ys e d = roll M (rules L) statement v xs ys (n, e, inr (inr (inr (inr (inr (inr (inl d)))))))

pub placed_call : (L : Dialect) (M : Mode) (v : StatementNode) (n : Statement) (xs ys : List Token)
    → placed_statement n (span_between xs ys) ≡ v
    → Means M (WrittenPart L M) (symbol call_statement ◃ SymSemicolon) n xs ys → Part M (rules L) statement v xs ys
placed_call L M v n xs ys e d = roll M (rules L) statement v xs ys
    (n, e, inr (inr (inr (inr (inr (inr (inr (inl d))))))))

pub placed_var : (L : Dialect) (M : Mode) (v : StatementNode) (n : Statement) (xs ys : List Token)
    → placed_statement n (span_between xs ys) ≡ v
    → Means M (WrittenPart L M) (symbol var_statement ◃ SymSemicolon) n xs ys → Part M (rules L) statement v xs ys
placed_var L M v n xs ys e d = roll M (rules L) statement v xs ys
    (n, e, inr (inr (inr (inr (inr (inr (inr (inr (inl d)))))))))

pub placed_value : (L : Dialect) (M : Mode) (v : StatementNode) (n : Statement) (xs ys : List Token)
    → placed_statement n (span_between xs ys) ≡ v
    → Means M (WrittenPart L M) (symbol value_statement ◃ SymSemicolon) n xs ys → Part M (rules L) statement v xs ys
placed_value L M v n xs ys e d = roll M (rules L) statement v xs ys
    (n, e, inr (inr (inr (inr (inr (inr (inr (inr (inr (inl d))))))))))

pub placed_break : (L : Dialect) (M : Mode) (v : StatementNode) (n : Statement) (xs ys : List Token)
    → placed_statement n (span_between xs ys) ≡ v
    → Means M (WrittenPart L M) (symbol break_statement ◃ SymSemicolon) n xs ys → Part M (rules L) statement v xs ys
placed_break L M v n xs ys e d = roll M (rules L) statement v xs ys
    (n, e, inr (inr (inr (inr (inr (inr (inr (inr (inr (inr (inl d)))))))))))

pub placed_continue : (L : Dialect) (M : Mode) (v : StatementNode) (n : Statement) (xs ys : List Token)
    → placed_statement n (span_between xs ys) ≡ v
    → Means M (WrittenPart L M) (symbol continue_statement ◃ SymSemicolon) n xs ys → Part M (rules L) statement v xs ys
placed_continue L M v n xs ys e d = roll M (rules L) statement v xs ys
    (n, e, inr (inr (inr (inr (inr (inr (inr (inr (inr (inr (inr (inl d))))))))))))

pub placed_discard : (L : Dialect) (M : Mode) (v : StatementNode) (n : Statement) (xs ys : List Token)
    → placed_statement n (span_between xs ys) ≡ v
    → Means M (WrittenPart L M) (symbol discard_statement ◃ SymSemicolon) n xs ys → Part M (rules L) statement v xs ys
placed_discard L M v n xs ys e d = roll M (rules L) statement v xs ys
    (n, e, inr (inr (inr (inr (inr (inr (inr (inr (inr (inr (inr (inr (inl d)))))))))))))

pub placed_assignment : (L : Dialect) (M : Mode) (v : StatementNode) (n : Statement) (xs ys : List Token)
    → placed_statement n (span_between xs ys) ≡ v
    → Means M (WrittenPart L M) (symbol assignment ◃ SymSemicolon) n xs ys → Part M (rules L) statement v xs ys
placed_assignment L M v n xs ys e d = roll M (rules L) statement v xs ys
    (n, e, inr (inr (inr (inr (inr (inr (inr (inr (inr (inr (inr (inr (inr (inl d))))))))))))))

pub placed_phony_assignment : (L : Dialect) (M : Mode) (v : StatementNode) (n : Statement) (xs ys : List Token)
    → placed_statement n (span_between xs ys) ≡ v
    → Means M (WrittenPart L M) (symbol phony_assignment ◃ SymSemicolon) n xs ys → Part M (rules L) statement v xs ys
placed_phony_assignment L M v n xs ys e d = roll M (rules L) statement v xs ys
    (n, e, inr (inr (inr (inr (inr (inr (inr (inr (inr (inr (inr (inr (inr (inr (inl d)))))))))))))))

pub placed_increment : (L : Dialect) (M : Mode) (v : StatementNode) (n : Statement) (xs ys : List Token)
    → placed_statement n (span_between xs ys) ≡ v
    → Means M (WrittenPart L M) (symbol increment ◃ SymSemicolon) n xs ys → Part M (rules L) statement v xs ys
placed_increment L M v n xs ys e d = roll M (rules L) statement v xs ys
    (n, e, inr (inr (inr (inr (inr (inr (inr (inr (inr (inr (inr (inr (inr (inr (inr (inl d))))))))))))))))

pub placed_decrement : (L : Dialect) (M : Mode) (v : StatementNode) (n : Statement) (xs ys : List Token)
    → placed_statement n (span_between xs ys) ≡ v
    → Means M (WrittenPart L M) (symbol decrement ◃ SymSemicolon) n xs ys → Part M (rules L) statement v xs ys
placed_decrement L M v n xs ys e d = roll M (rules L) statement v xs ys
    (n, e, inr (inr (inr (inr (inr (inr (inr (inr (inr (inr (inr (inr (inr (inr (inr (inr (inl d)))))))))))))))))

pub placed_compound : (L : Dialect) (M : Mode) (v : StatementNode) (n : Statement) (xs ys : List Token)
    → placed_statement n (span_between xs ys) ≡ v
    → Means M (WrittenPart L M) (symbol compound_statement gives block_statement) n xs ys
    → Part M (rules L) statement v xs ys
placed_compound L M v n xs ys e d = roll M (rules L) statement v xs ys
    (n, e, inr (inr (inr (inr (inr (inr (inr (inr (inr (inr (inr (inr (inr (inr (inr (inr (inr (inl d))))))))))))))))))

pub placed_const_assert : (L : Dialect) (M : Mode) (v : StatementNode) (n : Statement) (xs ys : List Token)
    → placed_statement n (span_between xs ys) ≡ v
    → Means M (WrittenPart L M) (symbol const_assert ◃ SymSemicolon gives assert_statement) n xs ys
    → Part M (rules L) statement v xs ys
placed_const_assert L M v n xs ys e d = roll M (rules L) statement v xs ys
    (n, e, inr (inr (inr (inr (inr (inr (inr (inr (inr (inr (inr (inr (inr (inr (inr (inr (inr (inr d))))))))))))))))))

pub braced_if : (L : Dialect) (M : Mode)
    → Kept (Means M (Part M (factored L)) (symbol (further if_part))) (Part M (factored L) (further braced_part))
braced_if L M u us vs s = roll M (factored L) (further braced_part) u us vs (inl s)

pub braced_switch : (L : Dialect) (M : Mode)
    → Kept (Means M (Part M (factored L)) (symbol (further switch_part))) (Part M (factored L) (further braced_part))
braced_switch L M u us vs s = roll M (factored L) (further braced_part) u us vs (inr (inl s))

pub braced_loop : (L : Dialect) (M : Mode)
    → Kept (Means M (Part M (factored L)) (symbol (further loop_part))) (Part M (factored L) (further braced_part))
braced_loop L M u us vs s = roll M (factored L) (further braced_part) u us vs (inr (inr (inl s)))

pub braced_for : (L : Dialect) (M : Mode)
    → Kept (Means M (Part M (factored L)) (symbol (further for_part))) (Part M (factored L) (further braced_part))
braced_for L M u us vs s = roll M (factored L) (further braced_part) u us vs (inr (inr (inr (inl s))))

pub braced_while : (L : Dialect) (M : Mode)
    → Kept (Means M (Part M (factored L)) (symbol (further while_part))) (Part M (factored L) (further braced_part))
braced_while L M u us vs s = roll M (factored L) (further braced_part) u us vs (inr (inr (inr (inr (inl s)))))

pub braced_block : (L : Dialect) (M : Mode)
    → Kept (Means M (Part M (factored L)) (symbol (further block_part))) (Part M (factored L) (further braced_part))
braced_block L M u us vs s = roll M (factored L) (further braced_part) u us vs (inr (inr (inr (inr (inr s)))))

pub ended_returning : (L : Dialect) (M : Mode)
    → Kept (Means M (Part M (factored L)) ((symbol (further returning_part)) ◃ SymSemicolon))
    (Means M (Part M (factored L)) (symbol (further ended_part) or break_part))
ended_returning L M u us vs s =
    inl (roll M (factored L) (further ended_part) u us vs (s.0, s.1, (s.2.0, inl s.2.1, s.2.2)))

pub ended_local : (L : Dialect) (M : Mode)
    → Kept (Means M (Part M (factored L)) ((symbol (further local_part)) ◃ SymSemicolon))
    (Means M (Part M (factored L)) (symbol (further ended_part) or break_part))
ended_local L M u us vs s =
    inl (roll M (factored L) (further ended_part) u us vs (s.0, s.1, (s.2.0, inr (inl s.2.1), s.2.2)))

pub ended_value : (L : Dialect) (M : Mode)
    → Kept (Means M (Part M (factored L)) ((symbol (further value_part)) ◃ SymSemicolon))
    (Means M (Part M (factored L)) (symbol (further ended_part) or break_part))
ended_value L M u us vs s =
    inl (roll M (factored L) (further ended_part) u us vs (s.0, s.1, (s.2.0, inr (inr (inl s.2.1)), s.2.2)))

pub ended_continue : (L : Dialect) (M : Mode)
    → Kept (Means M (Part M (factored L)) ((KwContinue means UnattributedStatement.continue_statement)
    ◃ SymSemicolon)) (Means M (Part M (factored L)) (symbol (further ended_part) or break_part))
ended_continue L M u us vs s = inl (roll M (factored L) (further ended_part) u us vs
    (s.0, s.1, (s.2.0, inr (inr (inr (inl s.2.1))), s.2.2)))

pub ended_discard : (L : Dialect) (M : Mode)
    → Kept (Means M (Part M (factored L)) ((KwDiscard means UnattributedStatement.discard_statement)
    ◃ SymSemicolon)) (Means M (Part M (factored L)) (symbol (further ended_part) or break_part))
ended_discard L M u us vs s = inl (roll M (factored L) (further ended_part) u us vs
    (s.0, s.1, (s.2.0, inr (inr (inr (inr (inl s.2.1)))), s.2.2)))

pub ended_simple : (L : Dialect) (M : Mode)
    → Kept (Means M (Part M (factored L)) ((symbol (further simple_part)) ◃ SymSemicolon))
    (Means M (Part M (factored L)) (symbol (further ended_part) or break_part))
ended_simple L M u us vs s = inl (roll M (factored L) (further ended_part) u us vs
    (s.0, s.1, (s.2.0, inr (inr (inr (inr (inr (inl s.2.1))))), s.2.2)))

pub ended_assert : (L : Dialect) (M : Mode)
    → Kept (Means M (Part M (factored L)) ((symbol (further assert_part) gives UnattributedStatement.const_assert)
    ◃ SymSemicolon)) (Means M (Part M (factored L)) (symbol (further ended_part) or break_part))
ended_assert L M u us vs s = inl (roll M (factored L) (further ended_part) u us vs
    (s.0, s.1, (s.2.0, inr (inr (inr (inr (inr (inr s.2.1))))), s.2.2)))

pub ended_break : (L : Dialect) (M : Mode)
    → Kept (Means M (Part M (factored L)) break_part)
    (Means M (Part M (factored L)) (symbol (further ended_part) or break_part))
ended_break L M u us vs s = inr s
