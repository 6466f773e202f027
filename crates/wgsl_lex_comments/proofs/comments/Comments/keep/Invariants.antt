use Rattle.std.proofs.Common.{ℕ, List}
use Rattle.wgsl_lex_comments.specs.Comments.{BeginsAt, AreComments, AreLeft}
use Rattle.wgsl_lex_comments.proofs.comments.Comments.keep.Given as goal

abbrev pub invariant-loop-comment : goal.invariant-loop-comment
invariant-loop-comment l = (source rest : List ℕ) → BeginsAt source l.following rest
    → AreComments source l.initial.self.found.items → AreLeft source rest l.initial.self.run.items
    → AreComments source l.self.found.items × AreLeft source rest l.self.run.items

abbrev pub decreases-loop-comment : goal.decreases-loop-comment
decreases-loop-comment l = goal.left-loop-comment l
