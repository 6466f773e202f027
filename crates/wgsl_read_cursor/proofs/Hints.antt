-- The definitions that the proofs of the functions open, and the lemmas that they cite.
use Rattle.std.specs.Prelude.{⊤}
use Rattle.grammar.specs.States.{is_at, next_start, after, take, first_of}
use Rattle.wgsl_theory_grammar.specs.ExpressionRules.{ident_at}
use Rattle.wgsl_theory_grammar.proofs.ExpressionEquations.{ident_is}
use Rattle.wgsl_read_cursor.specs.Tokens.{rest_of, next_class}
use Rattle.wgsl_read_cursor.proofs.First.{kind_known, known_kind, none_known, first_kind, first_none, first_place, first_end, none_end, after_first, fewer_after}
use Rattle.wgsl_read_cursor.specs.Reading.{refusal_stop, token_at}
use Rattle.wgsl_read_cursor.proofs.Refused.{told}
use Rattle.wgsl_read_cursor.proofs.AttributeNames.{attribute_name_is, no_attribute_name, keyword_text}

unfoldable pub definitions : ⊤
unfolding refusal_stop is_at next_start after take ident_at first_of token_at rest_of next_class
definitions = tt

pub ruleset lemmas = (
  told,
  kind_known,
  known_kind,
  none_known,
  first_kind,
  first_none,
  first_place,
  first_end,
  none_end,
  after_first,
  fewer_after,
  ident_is,
  attribute_name_is,
  no_attribute_name,
  keyword_text,
)
