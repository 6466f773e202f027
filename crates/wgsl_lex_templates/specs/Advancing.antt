-- Which tokens are left after a part of the grammar, by the classes of the tokens alone.
use Rattle.std.specs.Prelude.{◌≡◌, ℕ, zero, suc, Bool, false, cond, eqb, List, [], ◌∷◌, length, map, Option, Some, None}
use Rattle.std.specs.Borrow.{Bor}
use Rattle.grammar.specs.Tokens.{Payload.nothing, Token}
use Rattle.grammar.specs.Grammar.{Mode.checking, is_among}
use Rattle.grammar.specs.Reading.{Outcome, Outcome.ok, Outcome.stuck, Outcome.bad, Outcome.out, read_all}
use Rattle.wgsl_model.specs.Grammar.Symbols.{Symbol.relational_expression, Symbol.unary_expression}
use Rattle.wgsl_model.specs.Tokens.ClassTable.{SymParenLeft, TemplateArgsStart}
use Rattle.wgsl_theory_grammar.specs.Factored.{FactoredSymbol, FactoredSymbol.of, FactoredSymbol.further, Further.argument_rest, Further.template_items, body}
use Rattle.wgsl_theory_grammar.specs.Tables.{rank_limit, tables}
use Rattle.wgsl_lex_token.specs.declared.kind_table.TokenKind.{TokenKind}
use Rattle.wgsl_lex_token.specs.View.{classes}
use Rattle.wgsl_lex_templates.specs.ExpressionLists.{classes_of}

-- a token of a class that holds nothing and is nowhere
abbrev pub token_of_class : ℕ → Token
token_of_class class = record { class = class; payload = nothing; start = 0; end = 0 }

-- the classes that are left, if any value was read
abbrev pub classes_left : {A : Type 0} → Outcome A → Option (List ℕ)
classes_left (ok a us) = Some (classes_of us)
classes_left (stuck us) = None
classes_left (bad x us) = None
classes_left out = None

-- the classes that are left after what a symbol reads
unfoldable pub advances : FactoredSymbol → List ℕ → Option (List ℕ)
advances n cs = classes_left (read_all tables checking body rank_limit n (map token_of_class cs))

infixl 10 ◌>>=◌
-- one part, then another
abbrev pub ◌>>=◌ : Option (List ℕ) → (List ℕ → Option (List ℕ)) → Option (List ℕ)
None >>= f = None
(Some cs) >>= f = f cs

-- what goes on after a part, or what there is where that part is not
abbrev pub if_there : Option (List ℕ) → (List ℕ → Option (List ℕ)) → Option (List ℕ) → Option (List ℕ)
if_there None f other = other
if_there (Some cs) f other = f cs

-- one token of these classes
unfoldable pub take_any : List ℕ → List ℕ → Option (List ℕ)
take_any s [] = None
take_any s (c ∷ cs) = cond (is_among c s) (Some cs) None

-- one token of a class
unfoldable pub take : ℕ → List ℕ → Option (List ℕ)
take c [] = None
take c (d ∷ cs) = cond (eqb d c) (Some cs) None

-- the next token is of these classes
abbrev pub is_next : List ℕ → List ℕ → Bool
is_next s [] = false
is_next s (c ∷ cs) = is_among c s

-- a number of parts at most, as long as the next token is of these classes
abbrev pub turns_in : ℕ → List ℕ → (List ℕ → Option (List ℕ)) → List ℕ → Option (List ℕ)
turns_in zero s part cs = cond (is_next s cs) None (Some cs)
turns_in (suc k) s part cs = cond (is_next s cs) (part cs >>= turns_in k s part) (Some cs)

-- the parts; each takes a token
abbrev pub turns : List ℕ → (List ℕ → Option (List ℕ)) → List ℕ → Option (List ℕ)
turns s part cs = turns_in (length cs) s part cs

-- further operands of a bitwise operator
unfoldable pub bitwise_more : ℕ → List ℕ → Option (List ℕ)
bitwise_more operator cs = turns (operator ∷ [])
    (λ cs. take_any (operator ∷ []) cs >>= advances (of unary_expression)) cs

-- operands of a bitwise operator, one at least
unfoldable pub bitwise_operands : ℕ → List ℕ → Option (List ℕ)
bitwise_operands operator cs = advances (of unary_expression) cs >>= bitwise_more operator

-- further operands of a short-circuit operator
unfoldable pub relations_more : ℕ → List ℕ → Option (List ℕ)
relations_more operator cs = turns (operator ∷ [])
    (λ cs. take_any (operator ∷ []) cs >>= advances (of relational_expression)) cs

-- operands of a short-circuit operator, one at least
unfoldable pub relations : ℕ → List ℕ → Option (List ℕ)
relations operator cs = advances (of relational_expression) cs >>= relations_more operator

-- a template list, if any
unfoldable pub optional_template_list : List ℕ → Option (List ℕ)
optional_template_list cs = if_there (take TemplateArgsStart cs) (advances (further template_items)) (Some cs)

-- arguments, if any
unfoldable pub optional_arguments : List ℕ → Option (List ℕ)
optional_arguments cs = if_there (take SymParenLeft cs) (advances (further argument_rest)) (Some cs)

-- what a function left is what is left, by classes
abbrev pub LeavesKinds : Option (Bor (List TokenKind)) → Option (List ℕ) → Type 0
LeavesKinds (Some left) read = read ≡ Some (classes left.now)
LeavesKinds None read = read ≡ None
