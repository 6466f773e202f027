-- A text of blank space and comments that is read up to a place.
use Rattle.std.proofs.Common.{◌≡◌, ℕ, ◌+◌, ◌==◌, ◌||◌, nat_lt, not, Bool, true, false, refl, sym, ap, subst, ◌∙◌, List, [], ◌∷◌, chars, arith}
use Rattle.std.specs.Prelude.{codes}
use Rattle.std.proofs.lemmas.Bool.{true≢false}
use Rattle.std.proofs.lemmas.Grind.{common_steps}
use Rattle.wgsl_model.specs.Tokens.Trivia.{outside}
use Rattle.wgsl_model_tidy.specs.Pieces.{Piece, comments}
use Rattle.wgsl_model_tidy.specs.Layout.{Layout}
use Rattle.wgsl_model_tidy.specs.Open.{LayoutState}
use Rattle.wgsl_model_tidy.specs.Ahead.{Ahead, is_inline, after_comment, tokens_ahead}
use Rattle.wgsl_theory_tidy.proofs.Comments.{piece, nothing_left}
use Rattle.wgsl_theory_tidy.proofs.Written.{space_chars}
use Rattle.wgsl_format_layout.specs.declared.marks.Trivia.{Trivia}
use Rattle.wgsl_format_layout.specs.declared.comment.CommentKind.{CommentKind}
use Rattle.wgsl_format_layout.specs.Gaps.{comment_class}
use Rattle.wgsl_format_layout.specs.Trivia.{no_trivia, HasPassed, IsTrivia}
use Rattle.wgsl_format_layout.proofs.CommentKinds.{classed}

-- a token with these columns before it, before which a line has to end or not, and after a line
-- break of the author's or not
abbrev moved : Ahead → ℕ → Bool → Bool → Ahead
moved t space ends below = record t { space = space; ends = ends; below = below }

-- the tokens ahead that are after these
abbrev after_trivia : Trivia → List Ahead → List Ahead
after_trivia v [] = []
after_trivia v (t ∷ ts) = moved t (t.space + v.width) (t.ends || v.ends) (t.below || v.below) ∷ ts

moved_same : (t : Ahead) (ts : List Ahead) (m n : ℕ) (a b c d : Bool) → m ≡ n → a ≡ b → c ≡ d
    → moved t m a c ∷ ts ≡ moved t n b d ∷ ts
moved_same t ts m n a b c d e f g =
    ap (λ k. moved t k a c ∷ ts) e ∙ ap (λ x. moved t n x c ∷ ts) f ∙ ap (λ x. moved t n b x ∷ ts) g

-- up to a rest it is this
pub record Scanned (layout : Layout) (text rest : List ℕ) (v : Trivia) : Type 0 where
  pub ahead : (state : LayoutState) (following : ℕ → List Piece)
      → tokens_ahead layout state (comments following outside 0 text)
      ≡ after_trivia v (tokens_ahead layout state (comments following outside v.line_ends rest))
  pub plain : v.has_comment ≡ false → (following : ℕ → List Piece)
      → comments following outside 0 text ≡ comments following outside v.line_ends rest

-- ---- a comment more

or_false : (b : Bool) → b ≡ (b || false)
or_false true = refl
or_false false = refl

none_more : (n : ℕ) → n ≡ n + 0
none_more n = omega arith

or_turned : (a b c : Bool) → ((a || b) || c) ≡ (a || (c || b))
or_turned true b c = refl
or_turned false true true = refl
or_turned false true false = refl
or_turned false false true = refl
or_turned false false false = refl

after_both : (layout : Layout) (p : Piece) (v w : Trivia) (ts : List Ahead) → HasPassed v layout p w
    → p.line_ends ≡ v.line_ends → after_trivia v (after_comment layout p ts) ≡ after_trivia w ts
after_both layout p v w [] h e = refl
after_both layout p v w (t ∷ ts) h e =
    moved_same t ts _ _ _ _ _ _ (omega (arith, h.width))
    (or_turned t.ends (not (is_inline p)) v.ends ∙ ap (λ b. t.ends || b) (sym h.ends))
    (or_turned t.below (not (p.line_ends == 0)) v.below ∙ ap (λ n. t.below || (v.below || not (n == 0))) e
    ∙ ap (λ b. t.below || b) (sym h.below))

-- a text begins with a comment, and another is after it
abbrev pub HasComment : List ℕ → CommentKind → List ℕ → List ℕ → Type 0
HasComment rest kind text after = (b : ℕ → List Piece) (n : ℕ)
    → comments b outside n rest ≡ piece (comment_class kind) text n ∷ comments b outside 0 after

pub scanned_comment : (layout : Layout) (text rest words after : List ℕ) (kind : CommentKind) (v w : Trivia)
    → HasComment rest kind words after
    → HasPassed v layout (piece (comment_class kind) words v.line_ends) w
    → Scanned layout text rest v → Scanned layout text after w
scanned_comment layout text rest words after kind v w is h s =
    let p = piece (comment_class kind) words v.line_ends in
    let first : (state : LayoutState) (ps : List Piece)
    → tokens_ahead layout state (p ∷ ps) ≡ after_comment layout p (tokens_ahead layout state ps) =
    λ state ps. rw (classed kind) refl in
    record {
      ahead = λ state following.
          let ps = comments following outside 0 after in
          s.ahead state following
          ∙ ap (λ qs. after_trivia v (tokens_ahead layout state qs)) (is following v.line_ends)
          ∙ ap (after_trivia v) (first state ps)
          ∙ after_both layout p v w (tokens_ahead layout state ps) h refl
          ∙ ap (λ n. after_trivia w (tokens_ahead layout state (comments following outside n after))) (sym h.line_ends);
      plain = λ e following. absurd (true≢false (sym h.has_comment ∙ e));
    }

-- a line ends where one does at least
pub breaks_so : (n : ℕ) → nat_lt 0 n ≡ not (n == 0)
breaks_so n = grind (arith, common_steps)

-- ---- the whole text

breaks_or : (n : ℕ) (b : Bool) → (not (n == 0) || b) ≡ (b || nat_lt 0 n)
breaks_or n b = grind (arith, common_steps)

pub scanned_all : (layout : Layout) (text rest : List ℕ) (v : Trivia) (below : Bool) → rest ≡ []
    → below ≡ (v.below || nat_lt 0 v.line_ends) → Scanned layout text rest v
    → IsTrivia layout text (record v { below = below })
scanned_all layout text rest v below e h s =
    let n = v.line_ends in
    let none : (following : ℕ → List Piece) → comments following outside n rest ≡ following n = λ following.
    ap (comments following outside n) e ∙ nothing_left following n in
    record {
      ahead = λ state following t ts k.
          s.ahead state following ∙ ap (λ ps. after_trivia v (tokens_ahead layout state ps)) (none following)
          ∙ ap (after_trivia v) (k n)
          ∙ ap (λ b. moved t (t.space + v.width) (t.ends || v.ends) b ∷ ts) (breaks_or n v.below ∙ sym h);
      plain = λ c following. s.plain c following ∙ none following;
    }

space_left : (following : ℕ → List Piece) → comments following outside 0 (32 ∷ []) ≡ following 0
unfolding comments
space_left following = refl

-- a space
pub one_space : (layout : Layout) (bytes : List ℕ) (v : Trivia) → bytes ≡ codes " " → v ≡ no_trivia
    → IsTrivia layout (chars bytes) v
one_space layout bytes v e k =
    let none : (following : ℕ → List Piece) → comments following outside 0 (chars bytes) ≡ following 0 = λ following.
    ap (comments following outside 0) (ap chars e ∙ space_chars) ∙ space_left following in
    subst (IsTrivia layout (chars bytes)) (sym k) (record {
      ahead = λ state following t ts k.
          ap (tokens_ahead layout state) (none following) ∙ k 0
          ∙ moved_same t ts t.space _ t.ends _ false _ (none_more t.space) (or_false t.ends) refl;
      plain = λ c following. none following;
    })
