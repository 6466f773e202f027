use Rattle.std.proofs.Common.{length}
use Rattle.wgsl_model_tidy.specs.Open.{LayoutState}
use Rattle.wgsl_lexer.specs.TextTokens.{tokens_left}
use Rattle.wgsl_format_layout.specs.Closing.{AreBelow}
use Rattle.wgsl_format_layout.specs.Reading.{IsLeft}
use Rattle.wgsl_format_layout.specs.SoFar.{SoFar}
use Rattle.wgsl_format_layout.specs.declared.marks.Marks.{Marks}
use Rattle.wgsl_format_layout.proofs.marks.Marks.read_tokens.Given as goal

abbrev pub invariant-tokens : goal.invariant-tokens
invariant-tokens l = record {
  left : IsLeft l.self;
  below : AreBelow (length l.self.tokens.items) l.self.places;
  so_far : (first : Marks) (before : LayoutState) → SoFar first before l.fn.self → SoFar first before l.self;
}

abbrev pub decreases-tokens : goal.decreases-tokens
decreases-tokens l = length (tokens_left l.self.left)
