-- What is returned for the tokens of a template list.
use Rattle.std.proofs.Common.{◌≡◌, ℕ, ◌-◌, ◌<◌, suc, List, [], ◌∷◌, map, length, get_or, inl, inr, sym, ap, ap₂, subst, ◌∙◌, arith, Ok, Err, Result}
use Rattle.std.specs.Prelude.{Option}
use Rattle.grammar.specs.Tokens.{Token, last_end}
use Rattle.grammar.specs.Endings.{Ending}
use Rattle.grammar.specs.States.{first_start}
use Rattle.wgsl_model.specs.Trees.Expressions as plain
use Rattle.wgsl_model.specs.Grammar.Symbols.{Symbol.template_list}
use Rattle.wgsl_theory_grammar.specs.Answers.{answer_of, IsAnswer}
use Rattle.wgsl_theory_grammar.proofs.Faults.Answers.{answers_are_true}
use Rattle.wgsl_span.specs.declared.Span.{Span}
use Rattle.wgsl_error.specs.declared.Error.{Error}
use Rattle.wgsl_lex_token.specs.declared.placed.PlacedToken.{PlacedToken}
use Rattle.wgsl_lex_token.specs.Placed.{placed_view}
use Rattle.wgsl_lexer.specs.declared.collect.Collected.{Collected}
use Rattle.wgsl_lexer.specs.Given.{TokenItem, Gave}
use Rattle.wgsl_lexer.specs.Placed.{tokens_view, ending_view}
use Rattle.wgsl_read_cursor.specs.Answers.{Answered}
use Rattle.wgsl_parser.specs.Iterators.{Derived, IsParsed}
use Rattle.wgsl_parser.specs.Spans.{IsSpanOf, SpanAnswered}

-- where the last of some tokens ends
pub last_is : (place : ℕ) (ts : List PlacedToken) (t : PlacedToken) → 0 < length ts
    → t ≡ get_or ts (length ts - 1) t → last_end place (map placed_view ts) ≡ t.span.end
last_is place [] t h e = absurd (omega arith)
last_is place (u ∷ []) t h e = ap (λ (x : PlacedToken). x.span.end) (sym e)
last_is place (u ∷ v ∷ ts) t h e =
    let k : length (u ∷ v ∷ ts) - 1 ≡ suc (length (v ∷ ts) - 1) = omega arith in
    last_is u.span.end (v ∷ ts) t (omega arith) (e ∙ ap (λ (n : ℕ). get_or (u ∷ v ∷ ts) n t) k)

-- from where the first token starts to where the last one ends
pub span_is : (ts : List Token) (span : Span) → span.start ≡ first_start ts
    → span.end ≡ last_end 0 ts → IsSpanOf span ts
span_is [] span s e = ap₂ (λ (x y : ℕ). record { start = x; end = y }) s e
span_is (t ∷ ts) span s e = ap₂ (λ (x y : ℕ). record { start = x; end = y }) s e

-- a list was read
pub span_answered : {X : Type 0} (view : X → List plain.ExpressionNode) (ts : List Token)
    (ending : Ending) (span : Span) (read : Result X Error) (v : X)
    → Answered view read (answer_of template_list ts ending) → read ≡ Ok v
    → IsSpanOf span ts → SpanAnswered (Ok span) ts ending
span_answered view ts ending span read v a is h =
    (view v, subst (λ r. Answered view r (answer_of template_list ts ending)) is a, h)

-- what is returned for the tokens that an iterator gave
pub span_parsed : {S : Type 0} (starts : S → Type 0) (steps : S → Option TokenItem → S → Type 0)
    (it : S) (found : Collected) (result : Result Span Error) → starts it → Gave steps it found
    → SpanAnswered result (tokens_view found) (ending_view found.error)
    → IsParsed template_list (λ span found. (es : List plain.ExpressionNode)
    × Derived template_list es found × IsSpanOf span (tokens_view found)) starts steps result
span_parsed starts steps it found (Ok span) h g a =
    record {
      accepted = (
        found,
        (it, h, g),
        (
          a.0,
          subst (IsAnswer template_list (tokens_view found) (ending_view found.error)) a.1
              (answers_are_true template_list (tokens_view found) (ending_view found.error)),
          a.2,
        ),
      );
      refused = tt;
    }
span_parsed starts steps it found (Err e) h g (inl m) = record { accepted = tt; refused = inl m }
span_parsed starts steps it found (Err e) h g (inr a) =
    record {
      accepted = tt;
      refused = inr (
        found,
        (it, h, g),
        subst (IsAnswer template_list (tokens_view found) (ending_view found.error)) a
            (answers_are_true template_list (tokens_view found) (ending_view found.error)),
      );
    }
