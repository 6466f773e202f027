-- The characters of a piece as they are written: which stay, and that they are written so again.
use Rattle.std.specs.Prelude.{codes}
use Rattle.std.proofs.Common.{◌≡◌, ℕ, ◌==◌, ◌&&◌, ◌||◌, Bool, true, false, cond, refl, sym, ap, subst, ◌∙◌, List, [], ◌∷◌, ◌++◌, arith}
use Rattle.std.proofs.lemmas.Bool.{and_parts, eqb-true, true≢false}
use Rattle.std.proofs.lemmas.Grind.{common_steps}
use Rattle.wgsl_model.specs.Tokens.ClassTable.{LineComment, BlockComment}
use Rattle.wgsl_model.specs.Tokens.Characters.{is_blank}
use Rattle.wgsl_model.specs.Tokens.Trivia.{first_or_zero}
use Rattle.wgsl_model_tidy.specs.Pieces.{Piece, OpenComment}
use Rattle.wgsl_model_tidy.specs.NonBlank.{non_blank}
use Rattle.wgsl_model_tidy.specs.Shown.{without_returns, is_space, has_stars, with_front, block_shown, shown}
use Rattle.wgsl_model_tidy.specs.Layout.{Layout}
use Rattle.wgsl_model_tidy.specs.Ahead.{is_comment}
use Rattle.wgsl_model_tidy.specs.LaidOut.{Gap, Spot, indentation, is_at_front, depth_after, piece_text}
use Rattle.wgsl_theory_tidy.proofs.Comments.{piece}
use Rattle.wgsl_theory_tidy.proofs.Levels.{IsIndent, no_indent, one_space, one_tab, both_indents, indentation_indent}
use Rattle.wgsl_theory_tidy.proofs.Kept.Bodies.{IsBody, first_same, body_without_returns, body_with_front}
use Rattle.wgsl_theory_tidy.proofs.Kept.ClosedComments.{Closed, closed_line, closed_block, Unclosed, unclosed}
use Rattle.wgsl_theory_tidy.proofs.Kept.NonBlankOf.{over_blank_one}

-- ---- a character of a text at which a line begins or not: it belongs to the front of the line, or
-- ends the line, or neither

data At (begins : Bool) (c : ℕ) : Type 0 where
  in_front : begins ≡ true → is_space c ≡ true → At begins c
  line_end : c ≡ 10 → At begins c
  inside : (begins && is_space c) ≡ false → (c == 10) ≡ false → At begins c

at : (begins : Bool) (c : ℕ) → At begins c
at begins c = go (begins && is_space c) (c == 10) refl refl
  where
    go : (b l : Bool) → (begins && is_space c) ≡ b → (c == 10) ≡ l → At begins c
    go true l h e = let both = and_parts begins (is_space c) h in in_front both.0 both.1
    go false true h e = line_end (eqb-true c 10 e)
    go false false h e = inside h e

pub over_front : (front : List ℕ) (begins : Bool) (c : ℕ) (cs : List ℕ) → begins ≡ true
    → is_space c ≡ true → with_front front begins (c ∷ cs) ≡ with_front front true cs
over_front front begins c cs b h = rw (b, h) refl

pub over_line_end : (front : List ℕ) (begins : Bool) (cs : List ℕ)
    → with_front front begins (10 ∷ cs) ≡ 10 ∷ (front ++ with_front front true cs)
over_line_end front true cs = refl
over_line_end front false cs = refl

pub over_inside : (front : List ℕ) (begins : Bool) (c : ℕ) (cs : List ℕ) → (begins && is_space c) ≡ false
    → (c == 10) ≡ false → with_front front begins (c ∷ cs) ≡ c ∷ with_front front false cs
over_inside front begins c cs h e = rw (h, e) refl

-- a space or a tab is no CR, and is blank
pub space_no_return : (c : ℕ) → is_space c ≡ true → (c == 13) ≡ false
space_no_return c h = grind (arith, common_steps)

space_blank : (c : ℕ) → is_space c ≡ true → is_blank c ≡ true
space_blank c h = grind (arith, common_steps)

-- ---- without the CR before LF

-- a character that is no CR stays
pub kept_before : (c : ℕ) (cs : List ℕ) → (c == 13) ≡ false → without_returns (c ∷ cs) ≡ c ∷ without_returns cs
kept_before c cs h = rw h refl

pub without_returns_again : (xs : List ℕ) → without_returns (without_returns xs) ≡ without_returns xs
without_returns_again [] = refl
without_returns_again (c ∷ cs) = go (c == 13 && first_or_zero (without_returns cs) == 10) refl
    (without_returns_again cs)
  where
    go : (b : Bool) → (c == 13 && first_or_zero (without_returns cs) == 10) ≡ b
        → without_returns (without_returns cs) ≡ without_returns cs
        → without_returns (cond b (without_returns cs) (c ∷ without_returns cs))
        ≡ cond b (without_returns cs) (c ∷ without_returns cs)
    go true e h = h
    go false e h =
        ap (λ ys. cond (c == 13 && first_or_zero ys == 10) ys (c ∷ ys)) h
        ∙ ap (λ b. cond b (without_returns cs) (c ∷ without_returns cs)) e

without_returns_indent : (front xs : List ℕ) → IsIndent front
    → without_returns (front ++ xs) ≡ front ++ without_returns xs
without_returns_indent _ xs (no_indent) = refl
without_returns_indent _ xs (one_space front h) = ap (λ ys. 32 ∷ ys) (without_returns_indent front xs h)
without_returns_indent _ xs (one_tab front h) = ap (λ ys. 9 ∷ ys) (without_returns_indent front xs h)

-- where LF comes first, no front is left out
pub at_line_end : (front : List ℕ) (begins : Bool) (xs : List ℕ) → (first_or_zero xs == 10) ≡ true
    → with_front front false xs ≡ with_front front begins xs
at_line_end front begins [] h = refl
at_line_end front begins (c ∷ cs) h = rw (eqb-true c 10 h)
    (over_line_end front false cs ∙ sym (over_line_end front begins cs))

-- the two do not depend on which comes first
without_returns_front : (front : List ℕ) → IsIndent front → (begins : Bool) (xs : List ℕ)
    → without_returns (with_front front begins xs) ≡ with_front front begins (without_returns xs)
without_returns_front front n begins [] = refl
without_returns_front front n begins (c ∷ cs) = go (at begins c)
    (without_returns_front front n true cs) (without_returns_front front n false cs)
  where
    ended : without_returns (with_front front true cs) ≡ with_front front true (without_returns cs)
        → without_returns (with_front front begins (10 ∷ cs)) ≡ with_front front begins (10 ∷ without_returns cs)
    ended h =
        ap without_returns (over_line_end front begins cs) ∙ ap (λ ys. 10 ∷ ys)
        (without_returns_indent front (with_front front true cs) n ∙ ap (λ ys. front ++ ys) h)
        ∙ sym (over_line_end front begins (without_returns cs))

    last : (b : Bool) → (c == 13 && first_or_zero (without_returns cs) == 10) ≡ b
        → (begins && is_space c) ≡ false → (c == 10) ≡ false
        → cond b (with_front front false (without_returns cs)) (c ∷ with_front front false (without_returns cs))
        ≡ with_front front begins (cond b (without_returns cs) (c ∷ without_returns cs))
    last true e i l = at_line_end front begins (without_returns cs) (and_parts (c == 13) _ e).1
    last false e i l = sym (over_inside front begins c (without_returns cs) i l)

    go : At begins c
        → without_returns (with_front front true cs) ≡ with_front front true (without_returns cs)
        → without_returns (with_front front false cs) ≡ with_front front false (without_returns cs)
        → without_returns (with_front front begins (c ∷ cs)) ≡ with_front front begins (without_returns (c ∷ cs))
    go (in_front b s) h k =
        ap without_returns (over_front front begins c cs b s) ∙ h
        ∙ sym (over_front front begins c (without_returns cs) b s)
        ∙ ap (with_front front begins) (sym (kept_before c cs (space_no_return c s)))
    go (line_end e) h k = subst (λ d. without_returns (with_front front begins (d ∷ cs))
        ≡ with_front front begins (without_returns (d ∷ cs))) (sym e) (ended h)
    go (inside i l) h k =
        ap without_returns (over_inside front begins c cs i l)
        ∙ ap (λ ys. cond (c == 13 && first_or_zero ys == 10) ys (c ∷ ys)) k
        ∙ ap (λ d. cond (c == 13 && d == 10) (with_front front false (without_returns cs))
        (c ∷ with_front front false (without_returns cs))) (first_same front (without_returns cs))
        ∙ last (c == 13 && first_or_zero (without_returns cs) == 10) refl i l

-- ---- with another front of its lines

stars_indent : (front xs : List ℕ) → IsIndent front → has_stars true (front ++ xs) ≡ has_stars true xs
stars_indent _ xs (no_indent) = refl
stars_indent _ xs (one_space front h) = stars_indent front xs h
stars_indent _ xs (one_tab front h) = stars_indent front xs h

-- its lines begin with `*` as before
stars_inside : (begins : Bool) (c : ℕ) (xs ys : List ℕ) → (begins && is_space c) ≡ false
    → (c == 10) ≡ false → has_stars false xs ≡ has_stars false ys
    → has_stars begins (c ∷ xs) ≡ has_stars begins (c ∷ ys)
stars_inside true c xs ys i l h = rw i (ap (λ b. c == 42 && b) h)
stars_inside false c xs ys i l h = rw l h

stars_at_end : (begins : Bool) (front xs ys : List ℕ) → IsIndent front
    → has_stars true xs ≡ has_stars true ys
    → has_stars begins (10 ∷ (front ++ xs)) ≡ has_stars begins (10 ∷ ys)
stars_at_end true front xs ys n h = refl
stars_at_end false front xs ys n h = stars_indent front xs n ∙ h

stars_over : (begins : Bool) (c : ℕ) (xs : List ℕ) → begins ≡ true → is_space c ≡ true
    → has_stars begins (c ∷ xs) ≡ has_stars true xs
stars_over begins c xs b s = rw (b, s) refl

stars_front : (front : List ℕ) → IsIndent front → (begins : Bool) (xs : List ℕ)
    → has_stars begins (with_front front begins xs) ≡ has_stars begins xs
stars_front front n begins [] = refl
stars_front front n begins (c ∷ cs) = go (at begins c) (stars_front front n true cs) (stars_front front n false cs)
  where
    go : At begins c → has_stars true (with_front front true cs) ≡ has_stars true cs
        → has_stars false (with_front front false cs) ≡ has_stars false cs
        → has_stars begins (with_front front begins (c ∷ cs)) ≡ has_stars begins (c ∷ cs)
    go (in_front b s) h k = ap (has_stars begins) (over_front front begins c cs b s)
        ∙ ap (λ x. has_stars x (with_front front true cs)) b ∙ h ∙ sym (stars_over begins c cs b s)
    go (line_end e) h k =
        subst (λ d. has_stars begins (with_front front begins (d ∷ cs)) ≡ has_stars begins (d ∷ cs)) (sym e)
        (ap (has_stars begins) (over_line_end front begins cs)
        ∙ stars_at_end begins front (with_front front true cs) cs n h)
    go (inside i l) h k = ap (has_stars begins) (over_inside front begins c cs i l)
        ∙ stars_inside begins c (with_front front false cs) cs i l k

-- the last front stays
front_indent : (front last xs : List ℕ) → IsIndent front → with_front last true (front ++ xs) ≡ with_front last true xs
front_indent _ last xs (no_indent) = refl
front_indent _ last xs (one_space front h) = front_indent front last xs h
front_indent _ last xs (one_tab front h) = front_indent front last xs h

front_again : (front : List ℕ) → IsIndent front → (last : List ℕ) (begins : Bool) (xs : List ℕ)
    → with_front last begins (with_front front begins xs) ≡ with_front last begins xs
front_again front n last begins [] = refl
front_again front n last begins (c ∷ cs) = go (at begins c) (front_again front n last true cs)
    (front_again front n last false cs)
  where
    go : At begins c → with_front last true (with_front front true cs) ≡ with_front last true cs
        → with_front last false (with_front front false cs) ≡ with_front last false cs
        → with_front last begins (with_front front begins (c ∷ cs)) ≡ with_front last begins (c ∷ cs)
    go (in_front b s) h k =
        ap (with_front last begins) (over_front front begins c cs b s)
        ∙ ap (λ x. with_front last x (with_front front true cs)) b ∙ h
        ∙ sym (over_front last begins c cs b s)
    go (line_end e) h k =
        subst (λ d. with_front last begins (with_front front begins (d ∷ cs)) ≡ with_front last begins (d ∷ cs)) (sym e)
        (ap (with_front last begins) (over_line_end front begins cs)
        ∙ over_line_end last begins (front ++ with_front front true cs)
        ∙ ap (λ ys. 10 ∷ (last ++ ys)) (front_indent front last (with_front front true cs) n ∙ h)
        ∙ sym (over_line_end last begins cs))
    go (inside i l) h k =
        ap (with_front last begins) (over_inside front begins c cs i l)
        ∙ over_inside last begins c (with_front front false cs) i l ∙ ap (λ ys. c ∷ ys) k
        ∙ sym (over_inside last begins c cs i l)

-- ---- a block comment is written so again, and with another front as if it had not been written

-- where no CR is before LF
solid_again : (front : List ℕ) → IsIndent front → (last text : List ℕ) (begins : Bool)
    → without_returns text ≡ text
    → block_shown last true (without_returns (block_shown front begins text)) ≡ block_shown last true text
solid_again front n last text begins w = go (begins && has_stars false text) refl
  where
    moved : has_stars false text ≡ true
        → block_shown last true (with_front front false text) ≡ block_shown last true text
    moved h =
        ap (λ b. cond b (with_front last false (with_front front false text)) (with_front front false text))
        (stars_front front n false text ∙ h)
        ∙ front_again front n last false text
        ∙ sym (ap (λ b. cond b (with_front last false text) text) h)

    go : (b : Bool) → (begins && has_stars false text) ≡ b → block_shown last true
        (without_returns (cond b (with_front front false text) text)) ≡ block_shown last true text
    go true e = ap (block_shown last true) (without_returns_front front n false text
        ∙ ap (with_front front false) w) ∙ moved (and_parts begins _ e).1
    go false e = ap (block_shown last true) w

block_again : (front : List ℕ) → IsIndent front → (text : List ℕ) (begins : Bool)
    → without_returns text ≡ text
    → block_shown front begins (without_returns (block_shown front begins text)) ≡ block_shown front begins text
block_again front n text true w = solid_again front n front text true w
block_again front n text false w = w

-- ---- the characters that are not blank

pub non_blank_without_returns : (xs : List ℕ) → non_blank (without_returns xs) ≡ non_blank xs
non_blank_without_returns [] = refl
non_blank_without_returns (c ∷ cs) = go (c == 13 && first_or_zero (without_returns cs) == 10) refl
    (non_blank_without_returns cs)
  where
    go : (b : Bool) → (c == 13 && first_or_zero (without_returns cs) == 10) ≡ b
        → non_blank (without_returns cs) ≡ non_blank cs
        → non_blank (cond b (without_returns cs) (c ∷ without_returns cs)) ≡ non_blank (c ∷ cs)
    go true e h = h ∙ sym (ap (λ d. non_blank (d ∷ cs)) (eqb-true c 13 (and_parts (c == 13) _ e).0))
    go false e h = ap (λ ys. cond (is_blank c) ys (c ∷ ys)) h

non_blank_indent : (front xs : List ℕ) → IsIndent front → non_blank (front ++ xs) ≡ non_blank xs
non_blank_indent _ xs (no_indent) = refl
non_blank_indent _ xs (one_space front h) = non_blank_indent front xs h
non_blank_indent _ xs (one_tab front h) = non_blank_indent front xs h

non_blank_front : (front : List ℕ) → IsIndent front → (begins : Bool) (xs : List ℕ)
    → non_blank (with_front front begins xs) ≡ non_blank xs
non_blank_front front n begins [] = refl
non_blank_front front n begins (c ∷ cs) = go (at begins c) (non_blank_front front n true cs)
    (non_blank_front front n false cs)
  where
    go : At begins c → non_blank (with_front front true cs) ≡ non_blank cs
        → non_blank (with_front front false cs) ≡ non_blank cs
        → non_blank (with_front front begins (c ∷ cs)) ≡ non_blank (c ∷ cs)
    go (in_front b s) h k = ap non_blank (over_front front begins c cs b s) ∙ h
        ∙ sym (over_blank_one c cs (space_blank c s))
    go (line_end e) h k =
        subst (λ d. non_blank (with_front front begins (d ∷ cs)) ≡ non_blank (d ∷ cs)) (sym e)
        (ap non_blank (over_line_end front begins cs) ∙ non_blank_indent front (with_front front true cs) n ∙ h)
    go (inside i l) h k = ap non_blank (over_inside front begins c cs i l) ∙ ap (λ ys. cond (is_blank c) ys (c ∷ ys)) k

non_blank_block : (front : List ℕ) → IsIndent front → (begins : Bool) (text : List ℕ)
    → non_blank (block_shown front begins text) ≡ non_blank text
non_blank_block front n begins text = go (begins && has_stars false text)
  where
    go : (b : Bool) → non_blank (cond b (with_front front false text) text) ≡ non_blank text
    go true = non_blank_front front n false text
    go false = refl

non_blank_shown : (front : List ℕ) → IsIndent front → (begins : Bool) (p : Piece)
    → non_blank (shown front begins p) ≡ non_blank p.text
non_blank_shown front n begins p = go (p.class == BlockComment) (p.class == OpenComment)
  where
    go : (x y : Bool) → non_blank (cond x (block_shown front begins (without_returns p.text))
        (cond y (without_returns p.text) p.text)) ≡ non_blank p.text
    go true y = non_blank_block front n begins (without_returns p.text) ∙ non_blank_without_returns p.text
    go false true = non_blank_without_returns p.text
    go false false = refl

-- ---- a piece that was written is written so again, and with another front as if it had not been
-- written

-- by its class, and by where it begins
abbrev by_class : List ℕ → Bool → List ℕ → Bool → Bool → List ℕ
by_class front begins text x y = cond x (block_shown front begins (without_returns text))
    (cond y (without_returns text) text)

class_again : (last front text : List ℕ) (a b : Bool)
    → block_shown last a (without_returns (block_shown front b (without_returns text)))
    ≡ block_shown last a (without_returns text)
    → (x y : Bool) → by_class last a (by_class front b text x y) x y ≡ by_class last a text x y
class_again last front text a b h true y = h
class_again last front text a b h false true = without_returns_again text
class_again last front text a b h false false = refl

shown_again : (front : List ℕ) → IsIndent front → (begins : Bool) (p : Piece)
    → shown front begins (piece p.class (shown front begins p) 0) ≡ shown front begins p
shown_again front n begins p = class_again front front p.text begins begins
    (block_again front n (without_returns p.text) begins (without_returns_again p.text))
    (p.class == BlockComment) (p.class == OpenComment)

shown_kept : (front : List ℕ) → IsIndent front → (last : List ℕ) (begins : Bool) (p : Piece)
    → shown last true (piece p.class (shown front begins p) 0) ≡ shown last true p
shown_kept front n last begins p = class_again last front p.text true begins
    (solid_again front n last (without_returns p.text) begins (without_returns_again p.text))
    (p.class == BlockComment) (p.class == OpenComment)

-- ---- a token stays as it is, and a comment is one again

pub token_by_class : (front : List ℕ) (begins : Bool) (class : ℕ) (text : List ℕ) (n : ℕ)
    → is_comment class ≡ false → shown front begins (piece class text n) ≡ text
token_by_class front begins class text n = go (class == LineComment) (class == BlockComment) (class == OpenComment)
  where
    go : (l x y : Bool) → (l || (x || y)) ≡ false → by_class front begins text x y ≡ text
    go true x y e = absurd (true≢false e)
    go false true y e = absurd (true≢false e)
    go false false true e = absurd (true≢false e)
    go false false false e = refl

closed_by_class : (front : List ℕ) → IsIndent front → (begins : Bool) (class : ℕ) (text : List ℕ) (n : ℕ)
    → Closed class text → Closed class (shown front begins (piece class text n))
closed_by_class front i begins class text n (closed_line xs h t) = closed_line xs h t
closed_by_class front i begins class text n (closed_block xs b) =
    go (begins && has_stars false (47 ∷ (42 ∷ without_returns xs)))
  where
    body : IsBody true 0 (without_returns xs)
    body = body_without_returns 0 xs b

    go : (s : Bool) → Closed BlockComment (cond s
        (47 ∷ (42 ∷ with_front front false (without_returns xs))) (47 ∷ (42 ∷ without_returns xs)))
    go true = closed_block (with_front front false (without_returns xs))
        (body_with_front front i false 0 (without_returns xs) body)
    go false = closed_block (without_returns xs) body

unclosed_by_class : (front : List ℕ) (begins : Bool) (class : ℕ) (text : List ℕ) (n : ℕ)
    → Unclosed class text → Unclosed class (shown front begins (piece class text n))
unclosed_by_class front begins class text n (unclosed xs b) = unclosed (without_returns xs)
    (body_without_returns 0 xs b)

-- ---- the same of a piece after a gap

-- the front of later lines
front_indent_of : (layout : Layout) (depth : ℕ) → IsIndent (indentation layout depth ++ codes " ")
front_indent_of layout depth = both_indents (indentation layout depth) (codes " ")
    (indentation_indent layout depth) (one_space [] no_indent)

pub text_non_blank : (layout : Layout) (spot : Spot) (gap : Gap) (p : Piece)
    → non_blank (piece_text layout spot gap p) ≡ non_blank p.text
text_non_blank layout spot gap p = non_blank_shown _
    (front_indent_of layout (depth_after gap spot.state.line))
    (is_at_front gap spot.last spot.state.last) p

pub text_again : (layout : Layout) (spot : Spot) (gap : Gap) (p : Piece)
    → piece_text layout spot gap (piece p.class (piece_text layout spot gap p) 0) ≡ piece_text layout spot gap p
text_again layout spot gap p = shown_again _ (front_indent_of layout (depth_after gap spot.state.line))
    (is_at_front gap spot.last spot.state.last) p

pub text_kept : (layout : Layout) (spot : Spot) (gap : Gap) (p : Piece)
    → shown [] true (piece p.class (piece_text layout spot gap p) 0) ≡ shown [] true p
text_kept layout spot gap p = shown_kept _ (front_indent_of layout (depth_after gap spot.state.line))
    [] (is_at_front gap spot.last spot.state.last) p

pub token_text : (layout : Layout) (spot : Spot) (gap : Gap) (class : ℕ) (text : List ℕ) (n : ℕ)
    → is_comment class ≡ false → piece_text layout spot gap (piece class text n) ≡ text
token_text layout spot gap class text n h = token_by_class _ (is_at_front gap spot.last spot.state.last) class text n h

pub closed_text : (layout : Layout) (spot : Spot) (gap : Gap) (class : ℕ) (text : List ℕ) (n : ℕ)
    → Closed class text → Closed class (piece_text layout spot gap (piece class text n))
closed_text layout spot gap class text n c = closed_by_class _
    (front_indent_of layout (depth_after gap spot.state.line))
    (is_at_front gap spot.last spot.state.last) class text n c

pub unclosed_text : (layout : Layout) (spot : Spot) (gap : Gap) (class : ℕ) (text : List ℕ) (n : ℕ)
    → Unclosed class text → Unclosed class (piece_text layout spot gap (piece class text n))
unclosed_text layout spot gap class text n u = unclosed_by_class _
    (is_at_front gap spot.last spot.state.last) class text n u
