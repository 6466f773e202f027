-- A token of a text is read again before what is formatted after it: a token, a comment, or the end
-- of the text.
use Rattle.std.proofs.Common.{◌≡◌, ◌⊎◌, inl, inr, ℕ, zero, suc, ◌==◌, ◌&&◌, not, Bool, true, false, cond, refl, sym, ap, subst, ◌∙◌, List, [], ◌∷◌, ◌++◌, Some, lit<}
use Rattle.std.specs.Prelude.{option_map}
use Rattle.std.proofs.lemmas.Bool.{true≢false}
use Rattle.unicode_ident.proofs.IdentLemmas.{is_xid_start-ascii}
use Rattle.wgsl_model.specs.Tokens.ClassTable.{SymForwardSlash, SymDivisionEqual, SymLessThan, TemplateArgsEnd, LineComment, symbols}
use Rattle.wgsl_model.specs.Tokens.Kind.{Kind, plain}
use Rattle.wgsl_model.specs.Tokens.Raw.{Raw.token as raw_token, raw, raw_at}
use Rattle.wgsl_model.specs.Tokens.Trivia.{first_or_zero, after_trivia}
use Rattle.wgsl_model.specs.Tokens.Words.{look_up}
use Rattle.wgsl_theory_templates.proofs.Reaching.Reach.{role}
use Rattle.wgsl_theory_templates.proofs.Lexed.RoleClasses.{is_mark_role}
use Rattle.wgsl_theory_printed.proofs.Spelling.Spellings.{IsSpelling, EndsBefore, spelling_at, spelling_stands}
use Rattle.wgsl_theory_printed.proofs.Spelling.Signs.{looked_up, spelled_symbol}
use Rattle.wgsl_model_tidy.specs.Roles.{Role, template_start, beginning, is}
use Rattle.wgsl_model_tidy.specs.Joints.{Joint, line, nothing, space, nothing_or_line, space_or_line, joint}
use Rattle.wgsl_model_tidy.specs.Layout.{Layout}
use Rattle.wgsl_model_tidy.specs.Open.{LayoutState, enclosing, between_items, depth_of, comment_depth, role_in, last_after}
use Rattle.wgsl_model_tidy.specs.LaidOut.{Gap, closed, blank, broken, Last, token, Spot, is_token, may_break, begins_line, between, counted, before_next, token_gap, comment_gap, kept_gap, joint_gap, line_end, gap_before_comment, gap_before_token, gap_text, ending}
use Rattle.wgsl_theory_tidy.proofs.Kept.Neighbours.{not_beginning, shaped_after, may_close, by_joint, is_before_comment, NoComment, PartsAt, Parts, parts}
use Rattle.wgsl_theory_tidy.proofs.Kept.Readings.{IsToken, is_word, is_slash, is_slash_equal, is_start, is_end}
use Rattle.wgsl_theory_tidy.proofs.Kept.TokenRoles.{Starts, shaped}
use Rattle.wgsl_theory_tidy.proofs.Kept.Touching.{Shaped, is_less}

-- a token and the first character of a rest begin no longer token and no comment
abbrev pub PartsBefore : List ℕ → List ℕ → Type 0
PartsBefore w [] = Unit {0}
PartsBefore w (c ∷ cs) = PartsAt w c

-- ---- gaps

broken_parts : (layout : Layout) (left : Role) (w : List ℕ) (empty : Bool) (depth : ℕ) (more : List ℕ)
    → Parts left w → PartsBefore w (gap_text layout (broken empty depth) ++ more)
broken_parts layout left w true depth more p = p.line_end
broken_parts layout left w false depth more p = p.line_end

-- a line break of the author's, or what is there else
kept_parts : (layout : Layout) (left : Role) (w : List ℕ) (n : ℕ) (empty : Bool) (depth : ℕ)
    (other : Gap) (more : List ℕ) → Parts left w → PartsBefore w (gap_text layout other ++ more)
    → PartsBefore w (gap_text layout (kept_gap n (broken empty depth) other) ++ more)
kept_parts layout left w zero empty depth other more p e = e
kept_parts layout left w (suc n) empty depth other more p e = broken_parts layout left w empty depth more p

joint_parts : (layout : Layout) (left : Role) (w : List ℕ) (j : Joint) (n : ℕ) (empty : Bool)
    (depth : ℕ) (more : List ℕ) → Parts left w → (may_close j ≡ true → PartsBefore w more)
    → PartsBefore w (gap_text layout (joint_gap j n (broken empty depth)) ++ more)
joint_parts layout left w line n empty depth more p e = broken_parts layout left w empty depth more p
joint_parts layout left w nothing n empty depth more p e = e refl
joint_parts layout left w space n empty depth more p e = p.space
joint_parts layout left w nothing_or_line n empty depth more p e =
    kept_parts layout left w n empty depth closed more p (e refl)
joint_parts layout left w space_or_line n empty depth more p e =
    kept_parts layout left w n empty depth blank more p p.space

-- ---- after a token

-- a line break, or what is between two tokens, and a token
between_parts : (layout : Layout) (spot : Spot) (right : Role) (n : ℕ) (empty : Bool) (depth : ℕ) (more : List ℕ)
    (w : List ℕ) → Parts spot.state.last w
    → (may_close (joint (enclosing spot.state.opened) spot.state.last right) ≡ true → PartsBefore w more)
    → PartsBefore w (gap_text layout (joint_gap (between layout spot right) n (broken empty depth)) ++ more)
between_parts layout spot right n empty depth more w p e =
    go (is_token spot.last && (may_break (enclosing spot.state.opened) && begins_line layout spot right))
  where
    go : (b : Bool) → PartsBefore w (gap_text layout (joint_gap
        (cond b line (joint (enclosing spot.state.opened) spot.state.last right)) n (broken empty depth)) ++ more)
    go true = joint_parts layout spot.state.last w line n empty depth more p (λ h. absurd (true≢false (sym h)))
    go false = joint_parts layout spot.state.last w (joint (enclosing spot.state.opened) spot.state.last right) n
        empty depth more p e

-- the gap there, where what is last is known
abbrev after_token_gap : Layout → Spot → Role → ℕ → Last → Gap
after_token_gap layout spot right n last = token_gap (between layout spot right) last spot.state.last right
    (counted spot n) (line_end (between_items (before_next spot right) right) spot.last spot.state.last right
    (counted spot n) (depth_of (before_next spot right) right))

-- before a token
pub parts_before_token : (layout : Layout) (spot : Spot) (right : Role) (n : ℕ) (w v more : List ℕ)
    → spot.last ≡ token → Shaped spot.state.last w → Starts right v
    → PartsBefore w (gap_text layout (gap_before_token layout spot right n) ++ (v ++ more))
parts_before_token layout spot right n w [] more e h s = absurd s
parts_before_token layout spot right n w (x ∷ xs) more e h s =
    subst (λ last. PartsBefore w (gap_text layout (after_token_gap layout spot right n last) ++ (x ∷ (xs ++ more))))
    (sym e)
    (subst (λ b. PartsBefore w (gap_text layout (cond b closed (joint_gap (between layout spot right) (counted spot n)
    (line_end (between_items (before_next spot right) right) spot.last spot.state.last right (counted spot n)
    (depth_of (before_next spot right) right)))) ++ (x ∷ (xs ++ more)))) (sym (not_beginning spot.state.last w h))
    (between_parts layout spot right (counted spot n) _ (depth_of (before_next spot right) right) (x ∷ (xs ++ more)) w p
    (λ m. p.token right x s (by_joint (enclosing spot.state.opened) spot.state.last right m))))
  where
    p : Parts spot.state.last w
    p = parts spot.state.last w h

-- before a comment, where the next token has a role
comment_parts : (layout : Layout) (left : Role) (class : ℕ) (owned : Bool) (n : ℕ) (empty : Bool) (depth : ℕ)
    (w more : List ℕ) → Shaped left w
    → PartsBefore w (gap_text layout (comment_gap class token left owned n (broken empty depth)) ++ (47 ∷ more))
comment_parts layout left class owned n empty depth w more h = rw (not_beginning left w h) (own owned)
  where
    break : Gap
    break = broken empty depth

    p : Parts left w
    p = parts left w h

    opened : (b : Bool) (c : Bool) → is_before_comment left ≡ b → PartsBefore w
        (gap_text layout (cond (b && c) (kept_gap n break closed) (kept_gap n break blank)) ++ (47 ∷ more))
    opened true true e = kept_parts layout left w n empty depth closed (47 ∷ more) p (p.comment e)
    opened true false e = kept_parts layout left w n empty depth blank (47 ∷ more) p p.space
    opened false c e = kept_parts layout left w n empty depth blank (47 ∷ more) p p.space

    own : (b : Bool) → PartsBefore w (gap_text layout (cond b break (cond (is_before_comment left
        && not (class == LineComment)) (kept_gap n break closed) (kept_gap n break blank))) ++ (47 ∷ more))
    own true = broken_parts layout left w empty depth (47 ∷ more) p
    own false = opened (is_before_comment left) (not (class == LineComment)) refl

pub parts_before_comment : (layout : Layout) (spot : Spot) (right : Role) (class : ℕ) (owned : Bool)
    (n : ℕ) (w more : List ℕ) → spot.last ≡ token → Shaped spot.state.last w
    → PartsBefore w (gap_text layout (gap_before_comment spot right class owned n) ++ (47 ∷ more))
parts_before_comment layout spot right class owned n w more e h =
    subst (λ last. PartsBefore w (gap_text layout (comment_gap class last spot.state.last owned (counted spot n)
    (line_end (between_items (before_next spot right) right) spot.last spot.state.last beginning (counted spot n)
    (comment_depth (before_next spot right) right))) ++ (47 ∷ more))) (sym e)
    (comment_parts layout spot.state.last class owned (counted spot n) _ (comment_depth (before_next spot right) right)
    w more h)

ending_parts : (left : Role) (w : List ℕ) → Shaped left w → PartsBefore w (ending token left)
ending_parts left w h = go (is left beginning)
  where
    go : (b : Bool) → PartsBefore w (cond b [] (10 ∷ []))
    go true = tt
    go false = (parts left w h).line_end

-- and at the end of the text
pub parts_before_ending : (spot : Spot) (w : List ℕ) → spot.last ≡ token → Shaped spot.state.last w
    → PartsBefore w (ending spot.last spot.state.last)
parts_before_ending spot w e h = subst (λ last. PartsBefore w (ending last spot.state.last)) (sym e)
    (ending_parts spot.state.last w h)

-- ---- so the token is read again

parts_ends : (w rest : List ℕ) → PartsBefore w rest → EndsBefore w rest
parts_ends w [] p = tt
parts_ends w (c ∷ cs) p = p.0

slash_here : (cs : List ℕ) → (first_or_zero cs == 47) ≡ false → (first_or_zero cs == 42) ≡ false
    → raw (47 ∷ cs) ≡ raw_at (47 ∷ cs)
unfolding after_trivia
slash_here cs h k = rw (h, k) refl

no_comment : (rest : List ℕ) → PartsBefore (47 ∷ []) rest → NoComment (first_or_zero rest)
no_comment [] p = (refl, refl)
no_comment (c ∷ cs) p = p.1 refl

-- `/` and `/=` at the front
slash_front : (cs rest : List ℕ) (class : ℕ) → look_up symbols (47 ∷ cs) ≡ Some class
    → EndsBefore (47 ∷ cs) rest
    → raw_at (47 ∷ (cs ++ rest)) ≡ raw_token (plain class) (47 ∷ (cs ++ rest)) rest
slash_front cs rest class l e = spelling_at 47 cs rest (plain class)
    (spelled_symbol (47 ∷ cs) (looked_up symbols (47 ∷ cs) class l))
    (rw (is_xid_start-ascii 47 (lit< tt)) (ap (option_map plain) l)) e

parted_again : (k : Kind) (w rest more : List ℕ) → IsToken k w rest → PartsBefore w more → IsToken k w more
parted_again k w rest more (is_word kind v others m s r) p = is_word k w more m s
    (spelling_stands k w more s (parts_ends w more p))
parted_again k w rest more (is_slash others r) p =
    let no = no_comment more p in
    is_slash more (slash_here more no.0 no.1 ∙ slash_front [] more SymForwardSlash refl (parts_ends (47 ∷ []) more p))
parted_again k w rest more (is_slash_equal others r) p = is_slash_equal more
    (slash_here (61 ∷ more) refl refl
    ∙ slash_front (61 ∷ []) more SymDivisionEqual refl (parts_ends (47 ∷ (61 ∷ [])) more p))
parted_again k w rest more (is_start others) p = is_start more
parted_again k w rest more (is_end others) p = is_end more

-- the end of a template list is before everything
end_again : (k : Kind) (w rest more : List ℕ) → k ≡ plain TemplateArgsEnd → IsToken k w rest → IsToken k w more
end_again k w rest more e (is_word kind v others m s r) =
    absurd (true≢false (sym (ap (λ (x : Kind). is_mark_role (role x.class)) e) ∙ m))
end_again k w rest more e (is_slash others r) = absurd (true≢false (ap (λ (x : Kind). x.class == SymForwardSlash) e))
end_again k w rest more e (is_slash_equal others r) =
    absurd (true≢false (ap (λ (x : Kind). x.class == SymDivisionEqual) e))
end_again k w rest more e (is_start others) = is_start more
end_again k w rest more e (is_end others) = is_end more

-- a token of a text is one before other characters, where none of those that may be after it
-- makes more of it
pub token_again : (state : LayoutState) (k : Kind) (before_operand : Bool) (w rest more : List ℕ)
    → IsToken k w rest
    → (Shaped (last_after state (role_in state k.class before_operand)) w → PartsBefore w more)
    → IsToken k w more
token_again state k before_operand w rest more t f = go (shaped state k before_operand w rest t)
  where
    go : Shaped (role_in state k.class before_operand) w ⊎ (k ≡ plain TemplateArgsEnd) → IsToken k w more
    go (inl h) = parted_again k w rest more t (f (shaped_after state (role_in state k.class before_operand) w h))
    go (inr e) = end_again k w rest more e t

less_spelling : IsSpelling (plain SymLessThan) (60 ∷ [])
less_spelling = record {
  spelled = spelled_symbol (60 ∷ []) (looked_up symbols (60 ∷ []) SymLessThan refl);
  valued = rw (is_xid_start-ascii 60 (lit< tt)) refl;
  begins = (refl, refl);
}

-- the `<` of a template list is the token `<`
pub start_again : (state : LayoutState) (more : List ℕ)
    → (Shaped (last_after state template_start) (60 ∷ []) → PartsBefore (60 ∷ []) more)
    → raw (60 ∷ more) ≡ raw_token (plain SymLessThan) (60 ∷ more) more
start_again state more f = spelling_stands (plain SymLessThan) (60 ∷ []) more less_spelling
    (parts_ends (60 ∷ []) more (f (shaped_after state template_start (60 ∷ []) is_less)))
