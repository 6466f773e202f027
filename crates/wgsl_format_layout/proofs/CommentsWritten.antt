-- Comments that are written one after the other before a token.
use Rattle.std.proofs.Common.{◌≡◌, ℕ, ◌==◌, Bool, true, false, cond, refl, sym, ap, subst, ◌∙◌, List, ◌++◌, chars}
use Rattle.std.specs.Prelude.{string_bytes}
use Rattle.wgsl_model.specs.Tokens.ClassTable.{LineComment, BlockComment}
use Rattle.wgsl_model_tidy.specs.Pieces.{Piece}
use Rattle.wgsl_model_tidy.specs.Roles.{Role}
use Rattle.wgsl_model_tidy.specs.Open.{LayoutState}
use Rattle.wgsl_model_tidy.specs.LaidOut.{Spot, Last, is_token, comment_last, laid_from, between, is_line}
use Rattle.wgsl_format_layout.specs.Layouts.{layout_view}
use Rattle.wgsl_format_layout.specs.Outputs.{layout_of, IsBefore, HasComments}
use Rattle.wgsl_format_layout.specs.declared.layout.Layout.{Layout}
use Rattle.wgsl_format_layout.specs.declared.output.Output.{Output}

-- a comment is no token
by_class : (line block leading : Bool) → is_token (cond line Last.line_comment (cond block
    (cond leading Last.leading_comment Last.block_comment) Last.open_comment)) ≡ false
by_class true block leading = refl
by_class false true true = refl
by_class false true false = refl
by_class false false leading = refl

pub comment_is_no_token : (class : ℕ) (leading : Bool) → is_token (comment_last class leading) ≡ false
comment_is_no_token class leading = by_class (class == LineComment) (class == BlockComment) leading

-- no comment is written yet
pub no_comments : (o : Output) (spot : Spot) (ps : List Piece) (right : Role) → IsBefore o spot right
    → HasComments o spot ps right o spot ps
no_comments o spot ps right b = record {
  is_before = b;
  state = refl;
  ahead = refl;
  none = λ h. refl;
  layout = refl;
  laid = refl;
}

-- some and then others
pub comments_both : (a b c : Output) (s t u : Spot) (ps qs rs : List Piece) (right : Role)
    → HasComments a s ps right b t qs → HasComments b t qs right c u rs → HasComments a s ps right c u rs
comments_both a b c s t u ps qs rs right p q = record {
  is_before = q.is_before;
  state = q.state ∙ ap (λ (s : LayoutState). record s { line = u.state.line }) p.state;
  ahead = q.ahead ∙ p.ahead;
  none = λ h. q.none h ∙ p.none (ap (λ (s : Spot). is_token s.last) (sym (q.none h)) ∙ h);
  layout = q.layout ∙ p.layout;
  laid = p.laid ∙ subst (λ (l : Layout). chars (string_bytes b.text.string) ++ laid_from (layout_view l) t qs
      ≡ chars (string_bytes c.text.string) ++ laid_from (layout_view l) u rs) p.layout q.laid;
}

-- what is between the tokens stays the same where none is written
pub between_stays : (a b : Output) (s t : Spot) (ps qs : List Piece) (right : Role) (line : Bool)
    → HasComments a s ps right b t qs → (is_token s.last ≡ true → is_line (between (layout_of a) s right) ≡ line)
    → is_token t.last ≡ true → is_line (between (layout_of b) t right) ≡ line
between_stays a b s t ps qs right line p h k =
    ap (λ (l : Layout). is_line (between (layout_view l) t right)) p.layout
    ∙ ap (λ (t : Spot). is_line (between (layout_of a) t right)) (p.none k)
    ∙ h (ap (λ (t : Spot). is_token t.last) (sym (p.none k)) ∙ k)
