-- The gap for as many line breaks as a gap has is that gap.
use Rattle.std.proofs.Common.{◌≡◌, ℕ, zero, suc, ◌&&◌, ◌||◌, ◌==◌, Bool, true, false, cond, not, nat_lt, refl, sym, ap, ◌∙◌}
use Rattle.std.proofs.lemmas.Bool.{and_parts, true≢false}
use Rattle.wgsl_model.specs.Tokens.ClassTable.{LineComment}
use Rattle.wgsl_model_tidy.specs.Roles.{Role, beginning, opening, template_start, is}
use Rattle.wgsl_model_tidy.specs.Joints.{Joint, line, nothing, space, nothing_or_line, space_or_line}
use Rattle.wgsl_model_tidy.specs.LaidOut.{Gap, closed, blank, broken, Last, token, line_comment, block_comment, leading_comment, open_comment, kept_gap, joint_gap, after_comment, after_leading, token_gap, comment_gap, comment_after}
use Rattle.wgsl_theory_tidy.proofs.Kept.Gaps.{gap_ends}

-- a line break at which an empty line can stay, or cannot
abbrev pub break_for : Bool → ℕ → ℕ → Gap
break_for stays depth n = broken (nat_lt 1 n && stays) depth

break_ends : (stays : Bool) (depth : ℕ) (empty : Bool) (n : ℕ) → (nat_lt 1 n && stays) ≡ empty
    → break_for stays depth (gap_ends (broken empty depth)) ≡ broken empty depth
break_ends stays depth true n h = ap (λ b. broken b depth) (and_parts (nat_lt 1 n) stays h).1
break_ends stays depth false n h = refl

break_again : (stays : Bool) (depth n : ℕ)
    → break_for stays depth (gap_ends (break_for stays depth n)) ≡ break_for stays depth n
break_again stays depth n = break_ends stays depth (nat_lt 1 n && stays) n refl

-- at least one line break
some_ends : (empty : Bool) (depth : ℕ) (break other : Gap)
    → kept_gap (gap_ends (broken empty depth)) break other ≡ break
some_ends true depth break other = refl
some_ends false depth break other = refl

kept_again : (stays : Bool) (depth n : ℕ) (other : Gap) → gap_ends other ≡ 0
    → kept_gap (gap_ends (kept_gap n (break_for stays depth n) other)) (break_for stays depth
    (gap_ends (kept_gap n (break_for stays depth n) other))) other ≡ kept_gap n (break_for stays depth n) other
kept_again stays depth zero other h = rw h refl
kept_again stays depth (suc n) other h =
    some_ends (nat_lt 1 (suc n) && stays) depth (break_for stays depth
    (gap_ends (break_for stays depth (suc n)))) other ∙ break_again stays depth (suc n)

-- a gap with a line break has one again, whatever is there else
broken_again : (stays : Bool) (depth n : ℕ) (other : Gap) → kept_gap (gap_ends (break_for stays depth n))
    (break_for stays depth (gap_ends (break_for stays depth n))) other ≡ break_for stays depth n
broken_again stays depth n other = some_ends (nat_lt 1 n && stays) depth
    (break_for stays depth (gap_ends (break_for stays depth n))) other ∙ break_again stays depth n

joint_again : (j : Joint) (stays : Bool) (depth n : ℕ)
    → joint_gap j (gap_ends (joint_gap j n (break_for stays depth n))) (break_for stays depth
    (gap_ends (joint_gap j n (break_for stays depth n)))) ≡ joint_gap j n (break_for stays depth n)
joint_again line stays depth n = break_again stays depth n
joint_again nothing stays depth n = refl
joint_again space stays depth n = refl
joint_again nothing_or_line stays depth n = kept_again stays depth n closed refl
joint_again space_or_line stays depth n = kept_again stays depth n blank refl

-- nothing at the beginning of the text, else the gap for a joint
begun_again : (b : Bool) (j : Joint) (stays : Bool) (depth n : ℕ)
    → cond b closed
    (joint_gap j (gap_ends (cond b closed (joint_gap j n (break_for stays depth n))))
    (break_for stays depth (gap_ends (cond b closed (joint_gap j n (break_for stays depth n))))))
    ≡ cond b closed (joint_gap j n (break_for stays depth n))
begun_again true j stays depth n = refl
begun_again false j stays depth n = joint_again j stays depth n

-- the gap before a token
pub token_again : (between : Joint) (last : Last) (left right : Role) (stays : Bool) (depth n : ℕ)
    → token_gap between last left right
    (gap_ends (token_gap between last left right n (break_for stays depth n)))
    (break_for stays depth (gap_ends (token_gap between last left right n (break_for stays depth n))))
    ≡ token_gap between last left right n (break_for stays depth n)
token_again between token left right stays depth n = begun_again (is left beginning) between stays depth n
token_again between line_comment left right stays depth n = break_again stays depth n
token_again between leading_comment left right stays depth n = joint_again (after_leading between right) stays depth n
token_again between block_comment left right stays depth n = joint_again (after_comment between right) stays depth n
token_again between open_comment left right stays depth n = joint_again (after_comment between right) stays depth n

-- a comment after a token, where it belongs to the next token again, or no more
own_again : (class : ℕ) (left : Role) (own own' : Bool) (stays : Bool) (depth n : ℕ)
    → (own' ≡ true → own ≡ true)
    → comment_after class left own' (gap_ends (comment_after class left own n (break_for stays depth n)))
    (break_for stays depth (gap_ends (comment_after class left own n (break_for stays depth n))))
    ≡ comment_after class left own n (break_for stays depth n)
own_again class left own own' stays depth n h = go (is left beginning)
    ((is left opening || is left template_start) && not (class == LineComment)) own own' h
  where
    gap : Bool → Bool → Bool → ℕ → Gap
    gap begins tight owns m = cond begins closed (cond owns (break_for stays depth m) (cond tight
        (kept_gap m (break_for stays depth m) closed) (kept_gap m (break_for stays depth m) blank)))

    go : (begins tight owns owns' : Bool) → (owns' ≡ true → owns ≡ true)
        → gap begins tight owns' (gap_ends (gap begins tight owns n)) ≡ gap begins tight owns n
    go true tight owns owns' k = refl
    go false tight true true k = break_again stays depth n
    go false true true false k = broken_again stays depth n closed
    go false false true false k = broken_again stays depth n blank
    go false true false false k = kept_again stays depth n closed refl
    go false false false false k = kept_again stays depth n blank refl
    go false tight false true k = absurd (true≢false (sym (k refl)))

pub comment_again : (class : ℕ) (last : Last) (left : Role) (own own' : Bool) (stays : Bool) (depth n : ℕ)
    → (own' ≡ true → own ≡ true)
    → comment_gap class last left own' (gap_ends (comment_gap class last left own n (break_for stays depth n)))
    (break_for stays depth (gap_ends (comment_gap class last left own n (break_for stays depth n))))
    ≡ comment_gap class last left own n (break_for stays depth n)
comment_again class token left own own' stays depth n h = own_again class left own own' stays depth n h
comment_again class line_comment left own own' stays depth n h = break_again stays depth n
comment_again class block_comment left own own' stays depth n h = kept_again stays depth n blank refl
comment_again class leading_comment left own own' stays depth n h = kept_again stays depth n blank refl
comment_again class open_comment left own own' stays depth n h = kept_again stays depth n blank refl
