-- No token at the front of a text is a comment.
use Rattle.std.proofs.Common.{◌≡◌, ℕ, false, List, refl}
use Rattle.wgsl_model.specs.Tokens.Kind.{Kind}
use Rattle.wgsl_model.specs.Tokens.Raw.{token, raw}
use Rattle.wgsl_theory_grammar.proofs.Tokens.Symbols.{none_at_front}
use Rattle.wgsl_model_tidy.specs.Ahead.{is_comment}

pub raw_class : (text from after : List ℕ) (k : Kind) → raw text ≡ token k from after → is_comment k.class ≡ false
raw_class text from after k e = none_at_front is_comment refl refl refl text from after k e
