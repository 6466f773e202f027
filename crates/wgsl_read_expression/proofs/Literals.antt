-- The next token is read as a literal, if it is one.
use Rattle.std.proofs.Common.{◌≡◌, ℕ, String, Global, refl, List, [], ◌∷◌, cond, ap, ap₂, ◌∙◌}
use Rattle.std.specs.Prelude.{ℤ}
use Rattle.grammar.specs.Tokens.{Token}
use Rattle.grammar.specs.States.{State, Read, done, stop, unexpected, ended, ◌>>=◌, is_at, is_any, first_of, after, take}
use Rattle.wgsl_model.specs.Tokens.ClassTable.{KwTrue, KwFalse, AbstractInt, I32, U32, AbstractFloat, F32, F16}
use Rattle.wgsl_model.specs.Trees.Expressions.{LiteralExpression}
use Rattle.wgsl_model.specs.Grammar.TokenValues.{literal_of}
use Rattle.wgsl_model.specs.Grammar.Symbols.{Symbol.literal}
use Rattle.wgsl_theory_grammar.specs.Factored.{FactoredSymbol.of}
use Rattle.wgsl_theory_grammar.specs.Reader.{reader}
use Rattle.wgsl_theory_grammar.specs.ExpressionRules.{literal_at}
use Rattle.wgsl_theory_grammar.proofs.ExpressionEquations.{literal_is}
use Rattle.wgsl_span.specs.declared.Span.{Span}
use Rattle.wgsl_lex_token.specs.declared.token_table.Token as declared
use Rattle.wgsl_lex_token.specs.declared.token_table.Token.TheVariants as token
use Rattle.wgsl_lex_token.specs.declared.placed.PlacedToken.{PlacedToken}
use Rattle.wgsl_lex_token.specs.Placed.{placed_view}
use Rattle.wgsl_read_cursor.specs.declared.fault.Fault.{Fault}
use Rattle.wgsl_read_cursor.specs.declared.fault.Fault.TheVariants as fault
use Rattle.wgsl_read_cursor.specs.Reading.{first_token, token_at, refusal_stop, Tells, Fails}
use Rattle.wgsl_read_cursor.proofs.Refused.{told}

-- a token that is taken as a literal, or refused
abbrev pub taken_as_literal : Token → State → Read LiteralExpression
taken_as_literal t left =
    cond (is_any (KwTrue ∷ KwFalse ∷ AbstractInt ∷ I32 ∷ U32 ∷ AbstractFloat ∷ F32 ∷ F16 ∷ [])
    (record { end = 0; rest = t ∷ [] })) (done t left) (stop (unexpected t))
    >>= λ t s'. done (literal_of t) s'

next_in : (end : ℕ) (ts : List Token) (t : Token) (left : State) → first_token end ts ≡ done t left
    → reader (of literal) (record { end = end; rest = ts }) ≡ taken_as_literal t left
unfolding literal_at is_at first_of after take
next_in end [] t left h = absurd cc
next_in end (u ∷ us) t left h =
    let same : u ≡ t = cc in let following : record { end = u.end; rest = us } ≡ left = cc in
    literal_is (record { end = end; rest = u ∷ us }) ∙ ap₂ taken_as_literal same following

pub literal_next : (s left : State) (t : Token) → token_at s ≡ done t left
    → reader (of literal) s ≡ taken_as_literal t left
unfolding token_at
literal_next s left t h = next_in s.end s.rest t left h

-- the same of a token that is known
pub token_taken : (s left : State) (p : PlacedToken) (t : declared.Token)
    → token_at s ≡ done (placed_view p) left → p.token ≡ t
    → reader (of literal) s ≡ taken_as_literal (placed_view (record { token = t; span = p.span })) left
token_taken s left p t h k = literal_next s left (placed_view (record { token = t; span = p.span }))
    (h ∙ ap (λ t. done (placed_view (record { token = t; span = p.span })) left) k)

-- any other token is refused
abbrev pub IsNoLiteral : declared.Token → Type 0
IsNoLiteral t = (t ≡ token.KwTrue → ⊥) × (t ≡ token.KwFalse → ⊥) × ((x : ℤ) → t ≡ token.AbstractInt x → ⊥)
    × ((x : ℤ) → t ≡ token.I32 x → ⊥) × ((x : ℕ) → t ≡ token.U32 x → ⊥)
    × ((x : String Global) → t ≡ token.AbstractFloat x → ⊥)
    × ((x : String Global) → t ≡ token.F32 x → ⊥) × ((x : String Global) → t ≡ token.F16 x → ⊥)

other_refused : (t : declared.Token) (span : Span) (left : State) → IsNoLiteral t
    → taken_as_literal (placed_view (record { token = t; span = span })) left
    ≡ stop (unexpected (placed_view (record { token = t; span = span })))
unfolding is_at
other_refused token.KwTrue span left (a, _, _, _, _, _, _, _) = absurd (a refl)
other_refused token.KwFalse span left (_, b, _, _, _, _, _, _) = absurd (b refl)
other_refused (token.AbstractInt x) span left (_, _, c, _, _, _, _, _) = absurd (c x refl)
other_refused (token.I32 x) span left (_, _, _, d, _, _, _, _) = absurd (d x refl)
other_refused (token.U32 x) span left (_, _, _, _, e, _, _, _) = absurd (e x refl)
other_refused (token.AbstractFloat x) span left (_, _, _, _, _, f, _, _) = absurd (f x refl)
other_refused (token.F32 x) span left (_, _, _, _, _, _, g, _) = absurd (g x refl)
other_refused (token.F16 x) span left (_, _, _, _, _, _, _, h) = absurd (h x refl)
other_refused _ span left h = refl

pub literal_refused : (s left : State) (p : PlacedToken) (x : Fault)
    → token_at s ≡ done (placed_view p) left → IsNoLiteral p.token
    → Tells x (unexpected (placed_view p)) → Fails x (reader (of literal) s)
literal_refused s left p x h none tells = told x (unexpected (placed_view p)) _ tells
    (literal_next s left (placed_view p) h ∙ other_refused p.token p.span left none)

-- at the end there is none
none_in : (end : ℕ) (ts : List Token) (x : Fault) → Fails x (first_token end ts)
    → Fails x (reader (of literal) (record { end = end; rest = ts }))
unfolding literal_at is_at take
none_in end [] (fault.Refused refusal) h =
    let same : ended end ≡ refusal_stop refusal.value = cc in
    literal_is (record { end = end; rest = [] }) ∙ ap stop same
none_in end (t ∷ ts) (fault.Refused refusal) h = absurd cc
none_in end ts fault.OutOfMemory h = tt

pub no_literal : (s : State) (x : Fault) → Fails x (token_at s) → Fails x (reader (of literal) s)
unfolding token_at
no_literal s x h = none_in s.end s.rest x h

pub ruleset lemmas = (told, literal_next, no_literal)
