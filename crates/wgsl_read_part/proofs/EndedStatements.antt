-- Statements that a `;` ends, and those in the header of `for`, by their parts.
use Rattle.std.proofs.Common.{◌≡◌, ◌∙◌, sym, ap, cond}
use Rattle.grammar.specs.Tokens.{Token}
use Rattle.grammar.specs.States.{State, Read, Read.done, ◌>>=◌, is_at, take, next_start, span_from}
use Rattle.grammar.proofs.Binding.{bind_associates, pair_goes_on}
use Rattle.wgsl_model.specs.Tokens.ClassTable.{SymParenLeft, SymSemicolon}
use Rattle.wgsl_model.specs.Trees.Attributes.{Attributes}
use Rattle.wgsl_model.specs.Trees.Statements.{Statement, StatementNode, UnattributedStatement, statement, unattributed}
use Rattle.wgsl_model.specs.Grammar.StatementParts.{placed_statement}
use Rattle.wgsl_model.specs.Grammar.Symbols.{Symbol.for_init, Symbol.for_update}
use Rattle.wgsl_theory_grammar.specs.Factored.{FactoredSymbol.of, FactoredSymbol.further, Further.attribute_list, Further.parenthesized_statement, Further.plain_statement, Further.ended_part, Further.simple_part}
use Rattle.wgsl_theory_grammar.specs.Reader.{reader}
use Rattle.wgsl_theory_grammar.specs.StatementRules.{plain_statement_at, ended_part_at, for_init_at, for_update_at}
use Rattle.wgsl_theory_grammar.proofs.StatementEquations.{plain_statement_is, ended_part_is, for_init_is, for_update_is}
use Rattle.wgsl_read_attribute.specs.After.{after_attributes}
use Rattle.wgsl_read_simple.specs.Values.{word_at}
use Rattle.wgsl_read_simple.proofs.Binding.{token_after}
use Rattle.wgsl_read_part.specs.Plain.{ended, in_parentheses, unplaced_plain_at, assert_statement_at, ended_kinds_at, init_kinds_at, init_statement_at, update_statement_at}

-- where a statement is
abbrev pub placed_from : State → Statement → State → Read StatementNode
placed_from s x s' = done (placed_statement x (span_from (next_start s) s')) s'

-- ---- a `;` after a part is one after what is made of the part
pub ended_made : {A B : Type 0} (m : Read A) (f : A → B)
    → ((m >>= λ a s. take SymSemicolon s >>= λ t s'. done (a, t) s') >>= λ (p : A × Token) s. done p.0 s)
    >>= (λ a s. done (f a) s)
    ≡ ((m >>= λ a s. done (f a) s) >>= λ b s. take SymSemicolon s >>= λ t s'. done b s')
ended_made m f = token_after m (take SymSemicolon) (λ a s. done (f a) s)
    ∙ sym (bind_associates m (λ a s. done (f a) s) (λ b s. take SymSemicolon s >>= λ t s'. done b s'))

pub ended_after : (a : Attributes) (s : State) → after_attributes statement a
    (reader (further ended_part)) s ≡ ended (after_attributes statement a ended_kinds_at) s
unfolding ended_part_at ended_kinds_at word_at assert_statement_at
ended_after a s = ap (λ m. m >>= λ u s'. done (statement a u) s') (ended_part_is s)
    ∙ ended_made (ended_kinds_at s) (statement a)

-- ---- a statement that has no attributes
unfoldable pub plain_statement_parts : State → Read StatementNode
plain_statement_parts s = unplaced_plain_at s >>= placed_from s

pub plain_statement_by_parts : (s : State) → reader (further plain_statement) s ≡ plain_statement_parts s
unfolding plain_statement_at plain_statement_parts unplaced_plain_at
plain_statement_by_parts s =
    plain_statement_is s
    ∙ ap (λ m. cond (is_at SymSemicolon s) (take SymSemicolon s
    >>= λ t s'. done (unattributed UnattributedStatement.void) s') m >>= placed_from s)
    (ended_made (reader (further parenthesized_statement) s) unattributed)

-- ---- what a `for` does before its first turn, and after each
unfoldable pub for_init_parts : State → Read StatementNode
for_init_parts s = init_statement_at s >>= placed_from s

pub for_init_by_parts : (s : State) → reader (of for_init) s ≡ for_init_parts s
unfolding for_init_at for_init_parts init_statement_at init_kinds_at
for_init_by_parts s =
    for_init_is s
    ∙ ap (λ m. cond (is_at SymParenLeft s) (in_parentheses s) m >>= placed_from s)
    (pair_goes_on (reader (further attribute_list) s) init_kinds_at (λ p s'. done (statement p.0 p.1) s'))

unfoldable pub for_update_parts : State → Read StatementNode
for_update_parts s = update_statement_at s >>= placed_from s

pub for_update_by_parts : (s : State) → reader (of for_update) s ≡ for_update_parts s
unfolding for_update_at for_update_parts update_statement_at
for_update_by_parts s =
    for_update_is s
    ∙ ap (λ m. cond (is_at SymParenLeft s) (in_parentheses s) m >>= placed_from s) (pair_goes_on (reader
    (further attribute_list) s) (reader (further simple_part)) (λ p s'. done (statement p.0 p.1) s'))
