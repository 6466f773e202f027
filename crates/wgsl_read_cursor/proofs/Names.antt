-- A name that is next is read.
use Rattle.std.proofs.Common.{◌≡◌, ℕ, List, [], ◌∷◌, sym, subst, ap}
use Rattle.grammar.specs.Tokens.{Token}
use Rattle.grammar.specs.States.{done, is_at, first_of, after, take}
use Rattle.wgsl_model.specs.Grammar.TokenValues.{text_of}
use Rattle.wgsl_model.specs.Grammar.Symbols.{Symbol.ident}
use Rattle.wgsl_theory_grammar.specs.Factored.{FactoredSymbol.of}
use Rattle.wgsl_theory_grammar.specs.Reader.{reader}
use Rattle.wgsl_theory_grammar.specs.ExpressionRules.{ident_at}
use Rattle.wgsl_theory_grammar.proofs.ExpressionEquations.{ident_is}
use Rattle.wgsl_lexer.specs.TextTokens.{BeginWithName}

pub name_read : (end : ℕ) (ts : List Token) (text : List ℕ) → BeginWithName ts text
    → reader (of ident) (record { end = end; rest = ts })
    ≡ done (first_of (record { end = end; rest = ts })) (after (record { end = end; rest = ts }))
unfolding ident_at is_at first_of after take
name_read end [] text h = absurd h
name_read end (t ∷ ts) text h =
    subst (λ (x : Token). reader (of ident) (record { end = end; rest = x ∷ ts })
    ≡ done x (record { end = x.end; rest = ts })) (sym h) (ident_is _)

-- its text
pub name_text : (end : ℕ) (ts : List Token) (text : List ℕ) → BeginWithName ts text
    → text ≡ text_of (first_of (record { end = end; rest = ts }))
unfolding first_of
name_text end [] text h = absurd h
name_text end (t ∷ ts) text h = sym (ap text_of h)
