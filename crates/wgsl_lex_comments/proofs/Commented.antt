-- The places of comments, and what is after them.
use Rattle.std.proofs.Common.{◌≡◌, ℕ, zero, suc, ◌+◌, ◌-◌, ◌<◌, ◌≤◌, true, false, List, [], ◌∷◌, ◌++◌, drop, length, get_or, Equal, chars, sym, ap, subst, ◌∙◌, arith}
use Rattle.std.specs.Str.{IsUtf8, IsCharBoundary}
use Rattle.std.proofs.lemmas.Cmp.{ranked}
use Rattle.std.specs.Ordering.{nat_cmp}
use Rattle.std.proofs.lemmas.Bool.{true≢false}
use Rattle.wgsl_model.specs.Tokens.Characters.{is_blank}
use Rattle.wgsl_model.specs.Tokens.Places.{width}
use Rattle.wgsl_model.specs.Tokens.Trivia.{after_trivia, outside, in_line, in_block, out_of_block}
use Rattle.wgsl_lex_comments.specs.declared.comments.Comment.{Comment}
use Rattle.wgsl_lex_comments.specs.declared.comments.Known.{Known}
use Rattle.wgsl_lex_comments.specs.Comments.{BeginsAt, Leaves, IsCommentOf, IsKnownOf, IsKnown, AreComments, AreLeft}
use Rattle.wgsl_theory_grammar.proofs.Tokens.Cuts.{EndsWith, EndsPast}
use Rattle.wgsl_theory_grammar.proofs.Tokens.Widths.{width-append, within, past}
use Rattle.wgsl_lex_scanner.proofs.Pieces.{over_blank}
use Rattle.wgsl_theory_grammar.proofs.Tokens.Places.{same_end, bytes_width, cut_end}

-- ---- places
-- how much is left from a place on
left_at : (source : List ℕ) (place : ℕ) (text : List ℕ) → BeginsAt source place text → width source ≡ place + width text
left_at source place text (xs, e, p) = omega (arith, p, ap width e, width-append xs text)

-- what begins at the same place is the same
pub one_text : (source : List ℕ) (p q : ℕ) (t u : List ℕ) → BeginsAt source p t → BeginsAt source q u → p ≡ q → t ≡ u
one_text source p q t u b (ys, f, r) same = same_end b.0 ys t u (sym b.1 ∙ f)
    (omega (arith, same, left_at source p t b, left_at source q u (ys, f, r)))

-- the place of a text
pub text_begins : (bs ts : List ℕ) → IsUtf8 bs → IsUtf8 ts → EndsWith (chars bs) (chars ts)
    → (length ts ≤ length bs) × BeginsAt (chars bs) (length bs - length ts) (chars ts)
text_begins bs ts u v (before, e) =
    let size = (cut_end bs before (chars ts) u e).3 in
    (omega (arith, size, bytes_width ts v), (before, e, omega (arith, size, bytes_width ts v)))

-- a text can be cut there
pub text_cut : (bs : List ℕ) (place : ℕ) (ts : List ℕ) → IsUtf8 bs → BeginsAt (chars bs) place ts
    → IsCharBoundary bs place × (chars (drop place bs) ≡ ts)
text_cut bs place ts u (before, e, p) =
    let cut = cut_end bs before ts u e in
    (subst (IsCharBoundary bs) (sym p) cut.2, ap (λ n. chars (drop n bs)) p ∙ ap chars cut.0 ∙ cut.1)

-- a text that begins further right is shorter
pub shorter_at : (source bs cs : List ℕ) (p q : ℕ) → IsUtf8 bs → IsUtf8 cs
    → BeginsAt source p (chars bs) → BeginsAt source q (chars cs) → p < q → length cs < length bs
shorter_at source bs cs p q u v b d less = omega
    (arith, less, left_at source p (chars bs) b, left_at source q (chars cs) d, bytes_width bs u, bytes_width cs v)

-- ---- lists of comments
pub comment_in : (source : List ℕ) (found : List Known) (i : ℕ) (d : Known)
    → AreComments source found → i < length found → IsKnown source (get_or found i d)
comment_in source [] i d all l = absurd (omega arith)
comment_in source (known ∷ found) zero d all l = all.0
comment_in source (known ∷ found) (suc i) d all l = comment_in source found i d all.1 (omega arith)

pub comment_more : (source : List ℕ) (found : List Known) (known : Known) → AreComments source found
    → IsKnown source known → AreComments source (found ++ known ∷ [])
comment_more source [] known all is = (is, all)
comment_more source (first ∷ found) known all is = (all.0, comment_more source found known all.1 is)

pub left_more : (source rest : List ℕ) (run : List Comment) (comment : Comment)
    → AreLeft source rest run → (text : List ℕ) × IsCommentOf source text rest comment
    → AreLeft source rest (run ++ comment ∷ [])
left_more source rest [] comment all is = (is, all)
left_more source rest (first ∷ run) comment all is = (all.0, left_more source rest run comment all.1 is)

-- and taken from the back
pub left_last : (source rest : List ℕ) (run : List Comment) (comment : Comment)
    → AreLeft source rest (run ++ comment ∷ [])
    → AreLeft source rest run × ((text : List ℕ) × IsCommentOf source text rest comment)
left_last source rest [] comment all = (all.1, all.0)
left_last source rest (first ∷ run) comment all =
    let others = left_last source rest run comment all.1 in ((all.0, others.0), others.1)

-- what a search found, by the place where a text begins
pub found_at : (source text : List ℕ) (found : List Known) (start at : ℕ) (d : Known)
    → AreComments source found → BeginsAt source start text → at < length found
    → nat_cmp start (get_or found at d).comment.start ≡ Equal → IsKnownOf source text (get_or found at d)
found_at source text found start at d all b l same =
    let known = get_or found at d in
    let is = comment_in source found at d all l in
    let other = is.1.2 in
    subst (λ t. IsKnownOf source t known) (one_text source known.comment.start start is.0 text
    other.start b (sym (ranked start known.comment.start _ (sym same)))) is.1

-- ---- what is after a blank or a comment
blank_is_no_slash : (c : ℕ) → is_blank c ≡ true → c ≡ 47 → ⊥
blank_is_no_slash c h e = true≢false (sym h ∙ ap is_blank e)

pub leaves_blank : (c : ℕ) (text over : List ℕ) → text ≡ c ∷ over → is_blank c ≡ true → Leaves text over
leaves_blank c text over e h = record {
  line = λ body f. absurd (blank_is_no_slash c h cc);
  block = λ body n f. absurd (blank_is_no_slash c h cc);
  left = sym (over_blank c text over e h);
}

other_sign : (xs ys : List ℕ) → 47 ∷ (47 ∷ xs) ≡ 47 ∷ (42 ∷ ys) → ⊥
other_sign xs ys e = absurd cc

pub leaves_block : (text body over : List ℕ) → text ≡ 47 ∷ (42 ∷ body)
    → ((n : ℕ) → after_trivia (out_of_block n) over ≡ after_trivia (in_block n) body) → Leaves text over
unfolding after_trivia
leaves_block text body over e h = record {
  line = λ other f. absurd (other_sign other body (sym f ∙ e));
  block = λ other n f. h n ∙ ap (after_trivia (in_block n)) (tail other f);
  left = h 0 ∙ ap (after_trivia outside) (sym e);
} where
  tail : (other : List ℕ) → text ≡ 47 ∷ (42 ∷ other) → body ≡ other
  tail other f = cc

pub leaves_line : (text body over : List ℕ) → text ≡ 47 ∷ (47 ∷ body)
    → after_trivia outside over ≡ after_trivia in_line body → Leaves text over
unfolding after_trivia
leaves_line text body over e h = record {
  line = λ other f. h ∙ ap (after_trivia in_line) (tail other f);
  block = λ other n f. absurd (other_sign body other (sym e ∙ f));
  left = h ∙ ap (after_trivia outside) (sym e);
} where
  tail : (other : List ℕ) → text ≡ 47 ∷ (47 ∷ other) → body ≡ other
  tail other f = cc

-- a comment that was walked
pub walked : (source text over rest : List ℕ) (comment : Comment) → BeginsAt source comment.start text
    → BeginsAt source comment.end over → Leaves text over → width over < width text
    → after_trivia outside over ≡ rest → IsCommentOf source text rest comment
walked source text over rest comment s e leaves less left = record {
  over = over;
  start = s;
  end = e;
  leaves = leaves;
  forward = omega (arith, less, left_at source comment.start text s, left_at source comment.end over e);
  left = left;
}

-- what is no longer than what is after a first character is narrower than the text
pub narrower : (text bs cs : List ℕ) → IsUtf8 bs → IsUtf8 cs → EndsPast text (chars bs)
    → length cs ≤ length bs → width (chars cs) < width text
narrower text bs cs u v h less = omega (arith, less, past text (chars bs) h, bytes_width bs u, bytes_width cs v)

-- in bytes
pub no_longer : (bs cs : List ℕ) → IsUtf8 bs → IsUtf8 cs → EndsWith (chars bs) (chars cs) → length cs ≤ length bs
no_longer bs cs u v h = omega (arith, within (chars bs) (chars cs) h, bytes_width bs u, bytes_width cs v)

-- at the start none is known
pub no_comments : (source : List ℕ) (comments : List Known) → comments ≡ [] → AreComments source comments
no_comments source comments none = subst (AreComments source) (sym none) tt
