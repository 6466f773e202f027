-- The span of a template list.
use Rattle.std.specs.Prelude.{◌≡◌, ◌⊎◌, List, Result, Ok, Err}
use Rattle.grammar.specs.Tokens.{Token, span_of}
use Rattle.grammar.specs.Endings.{Ending, Answer.accepted, Answer.denied}
use Rattle.wgsl_model.specs.Trees.Expressions.{ExpressionNode}
use Rattle.wgsl_model.specs.Grammar.Symbols.{Symbol.template_list}
use Rattle.wgsl_theory_grammar.specs.Answers.{answer_of}
use Rattle.wgsl_span.specs.declared.Span.{Span}
use Rattle.wgsl_span.specs.View.{span_view}
use Rattle.wgsl_error.specs.declared.Error.{Error}
use Rattle.wgsl_error.specs.View.{fault_view}
use Rattle.wgsl_read_cursor.specs.Answers.{IsOutOfMemory}

-- a span runs from the first of some tokens to the last
abbrev pub IsSpanOf : Span → List Token → Type 0
IsSpanOf span ts = span_view span ≡ span_of ts

-- what is returned for tokens that ended so: the span of the template list that they are, or an
-- error, unless memory ran out
abbrev pub SpanAnswered : Result Span Error → List Token → Ending → Type 0
SpanAnswered (Ok span) ts ending = (es : List ExpressionNode)
    × (answer_of template_list ts ending ≡ accepted es) × IsSpanOf span ts
SpanAnswered (Err e) ts ending = IsOutOfMemory e ⊎ (answer_of template_list ts ending ≡ denied (fault_view e))
