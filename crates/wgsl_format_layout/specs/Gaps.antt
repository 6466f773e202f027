-- What is written before a piece, as the definitions see it.
use Rattle.std.specs.Prelude.{ℕ}
use Rattle.wgsl_model.specs.Tokens.ClassTable.{LineComment, BlockComment}
use Rattle.wgsl_model_tidy.specs.Pieces.{OpenComment}
use Rattle.wgsl_model_tidy.specs.LaidOut as plain
use Rattle.wgsl_format_layout.specs.declared.comment.CommentKind.{CommentKind}
use Rattle.wgsl_format_layout.specs.declared.comment.CommentKind.TheVariants as comment
use Rattle.wgsl_format_layout.specs.declared.gap.Gap.{Gap}
use Rattle.wgsl_format_layout.specs.declared.gap.Gap.TheVariants as gap
use Rattle.wgsl_format_layout.specs.declared.gap.Last.{Last}
use Rattle.wgsl_format_layout.specs.declared.gap.Last.TheVariants as last

-- the class of a comment
abbrev pub comment_class : CommentKind → ℕ
comment_class comment.Line = LineComment
comment_class comment.Block = BlockComment
comment_class comment.Open = OpenComment

-- what the last piece is where it is a comment that does not lead
abbrev pub comment_view : CommentKind → plain.Last
comment_view comment.Line = plain.line_comment
comment_view comment.Block = plain.block_comment
comment_view comment.Open = plain.open_comment

-- what the last piece is
abbrev pub last_view : Last → plain.Last
last_view last.Token = plain.token
last_view last.Leading = plain.leading_comment
last_view (last.Comment kind) = comment_view kind

-- what is written
abbrev pub gap_view : Gap → plain.Gap
gap_view gap.Closed = plain.closed
gap_view gap.Blank = plain.blank
gap_view (gap.Broken empty depth) = plain.broken empty depth
