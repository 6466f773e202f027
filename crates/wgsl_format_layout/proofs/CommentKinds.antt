-- What has the class of a comment is a comment, and how wide it is.
use Rattle.std.proofs.Common.{◌≡◌, ℕ, suc, ◌+◌, Bool, true, false, cond, refl, sym, ap, ◌∙◌, arith}
use Rattle.wgsl_model_tidy.specs.Pieces.{Piece}
use Rattle.wgsl_model_tidy.specs.Layout.{Layout, column_after}
use Rattle.wgsl_model_tidy.specs.Ahead.{is_comment, is_inline, comment_width}
use Rattle.wgsl_format_layout.specs.declared.comment.CommentKind.{CommentKind}
use Rattle.wgsl_format_layout.specs.declared.comment.CommentKind.TheVariants as comment
use Rattle.wgsl_format_layout.specs.Gaps.{comment_class}

pub classed : (kind : CommentKind) → is_comment (comment_class kind) ≡ true
classed comment.Line = refl
classed comment.Block = refl
classed comment.Open = refl

width_by : (layout : Layout) (p : Piece) (b : Bool) → is_inline p ≡ b
    → cond b (suc (column_after layout 0 p.text)) 0 ≡ comment_width layout p
width_by layout p b h = ap (λ b. cond b (suc (column_after layout 0 p.text)) 0) (sym h)

pub width_inline : (layout : Layout) (p : Piece) (width : ℕ) → is_inline p ≡ true
    → width ≡ column_after layout 0 p.text + 1 → width ≡ comment_width layout p
width_inline layout p width h e =
    let one_more : column_after layout 0 p.text + 1 ≡ suc (column_after layout 0 p.text) = omega arith in
    e ∙ one_more ∙ width_by layout p true h

pub width_other : (layout : Layout) (p : Piece) → is_inline p ≡ false → 0 ≡ comment_width layout p
width_other layout p h = width_by layout p false h
