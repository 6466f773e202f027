-- A statement after its attributes, before the rest of a block.
use Rattle.std.proofs.Common.{◌≡◌, ◌∙◌, refl, ap, List, [], ◌∷◌, ◌++◌}
use Rattle.grammar.specs.Tokens.{Span}
use Rattle.grammar.specs.States.{State, Read, Read.done, Read.stop, ◌>>=◌, next_start, span_from}
use Rattle.grammar.proofs.Binding.{bind_associates}
use Rattle.wgsl_model.specs.Trees.Attributes.{Attributes}
use Rattle.wgsl_model.specs.Trees.Statements.{StatementNode, UnattributedStatement, statement}
use Rattle.wgsl_model.specs.Grammar.StatementParts.{placed_statement}
use Rattle.wgsl_theory_grammar.specs.Factored.{FactoredSymbol.further, Further.attribute_list, statement_first}
use Rattle.wgsl_theory_grammar.specs.Reader.{reader}
use Rattle.wgsl_read_attribute.proofs.Begun.{attributes_begun}
use Rattle.wgsl_read_simple.proofs.Binding.{put_before, following, after_more}

-- a statement and what is after it, as the grammar writes it
abbrev pub item_written : {E : Type 0} → State → Read UnattributedStatement
    → (State → Read (List StatementNode × E)) → Read (Attributes → List StatementNode × E)
item_written s m rest = ((m >>= λ u s1. done (u, span_from (next_start s) s1) s1)
    >>= λ x s1. rest s1 >>= λ r s2. done (x, r) s2) >>= λ p s1. done (statement_first p) s1

-- a statement that begins at a place, where its attributes do
abbrev pub item_made : {E : Type 0} → List StatementNode → Attributes → State → Read UnattributedStatement
    → (State → Read (List StatementNode × E)) → Read (List StatementNode × E)
item_made l a s m rest =
    ((m >>= λ u s1. done (statement a u) s1) >>= λ x s1. done (placed_statement x (span_from (next_start s) s1)) s1)
    >>= λ n s1. following (l ++ n ∷ []) (rest s1)

pub statement_item_is : {E : Type 0} (l : List StatementNode) (a : Attributes) (s s' : State)
    → reader (further attribute_list) s ≡ done a s'
    → (m : Read UnattributedStatement) (rest : State → Read (List StatementNode × E))
    → (item_written s' m rest >>= λ f s1. done (put_before l (f a)) s1) ≡ item_made l a s m rest
statement_item_is l a s s' h (done u s1) rest =
    bind_associates (rest s1 >>= λ r s2. done ((u, span_from (next_start s') s1), r) s2)
    (λ p s2. done (statement_first p) s2) (λ f s2. done (put_before l (f a)) s2)
    ∙ bind_associates (rest s1) (λ r s2. done ((u, span_from (next_start s') s1), r) s2)
    (λ p s2. done (put_before l (statement_first p a)) s2)
    ∙ ap (λ (span : Span). rest s1 >>= λ r s2. done (put_before l
    (placed_statement (statement a u) span ∷ r.0, r.1)) s2) (attributes_begun s a s' s1 h)
    ∙ after_more l (placed_statement (statement a u) (span_from (next_start s) s1)) (rest s1)
statement_item_is l a s s' h (stop e) rest = refl
