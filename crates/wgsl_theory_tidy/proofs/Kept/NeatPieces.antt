-- What is formatted after a piece makes a neat text: the gap before the next piece, a comment, and
-- the end of the text.
use Rattle.std.proofs.Common.{◌≡◌, ℕ, Bool, true, false, cond, refl, sym, subst, List, [], ◌∷◌, ◌++◌}
use Rattle.wgsl_model.specs.Tokens.Trivia.{outside, in_line}
use Rattle.wgsl_model_tidy.specs.Roles.{Role, beginning, is}
use Rattle.wgsl_model_tidy.specs.Joints.{Joint}
use Rattle.wgsl_model_tidy.specs.Layout.{Layout}
use Rattle.wgsl_model_tidy.specs.Open.{depth_of, comment_depth}
use Rattle.wgsl_model_tidy.specs.LaidOut.{between, counted, before_next, Gap, closed, broken, Last, token, line_comment, block_comment, leading_comment, open_comment, Spot, token_gap, comment_gap, comment_last, gap_before_comment, gap_before_token, gap_text, ending}
use Rattle.wgsl_theory_tidy.proofs.Kept.NeatTexts.{start, solid, Neat, NeatWord, neat_word, broken_neat, gap_neat, line_neat}
use Rattle.wgsl_theory_tidy.proofs.Kept.TextFronts.{ends_neat, open_neat}
use Rattle.wgsl_theory_tidy.proofs.Kept.ClosedComments.{Closed, closed_line, closed_block, Unclosed, unclosed}

-- the text is neat that follows such a piece; nothing follows a comment that is not closed
abbrev pub NeatAt : Last → Role → List ℕ → Type 0
NeatAt token left r = Neat outside (cond (is left beginning) start solid) r
NeatAt line_comment left r = Neat in_line solid r
NeatAt open_comment left r = Unit {0}
NeatAt last left r = Neat outside solid r

-- ---- gaps

-- the gap may come there
abbrev MayFollow : Last → Role → Gap → Type 0
MayFollow token left gap = is left beginning ≡ true → gap ≡ closed
MayFollow line_comment left gap = (empty : Bool) × (depth : ℕ) × (gap ≡ broken empty depth)
MayFollow last left gap = Unit {0}

follows : (layout : Layout) (last : Last) (left : Role) (gap : Gap) (r : List ℕ)
    → MayFollow last left gap → NeatWord r → NeatAt last left (gap_text layout gap ++ r)
follows layout token left gap r m h = go (is left beginning) m
  where
    go : (b : Bool) → (b ≡ true → gap ≡ closed) → Neat outside (cond b start solid) (gap_text layout gap ++ r)
    go true m = subst (λ g. Neat outside start (gap_text layout g ++ r)) (sym (m refl)) (neat_word start r h)
    go false m = gap_neat layout gap r h
follows layout line_comment left gap r m h = subst (λ g. Neat in_line solid (gap_text layout g ++ r))
    (sym m.2) (broken_neat layout in_line m.0 m.1 r tt h)
follows layout open_comment left gap r m h = tt
follows layout block_comment left gap r m h = gap_neat layout gap r h
follows layout leading_comment left gap r m h = gap_neat layout gap r h

before_token : (joint : Joint) (last : Last) (left right : Role) (n : ℕ) (empty : Bool) (depth : ℕ)
    → MayFollow last left (token_gap joint last left right n (broken empty depth))
before_token joint token left right n empty depth = λ h. rw h refl
before_token joint line_comment left right n empty depth = (empty, depth, refl)
before_token joint open_comment left right n empty depth = tt
before_token joint block_comment left right n empty depth = tt
before_token joint leading_comment left right n empty depth = tt

before_comment : (class : ℕ) (last : Last) (left : Role) (own : Bool) (n : ℕ) (empty : Bool) (depth : ℕ)
    → MayFollow last left (comment_gap class last left own n (broken empty depth))
before_comment class token left own n empty depth = λ h. rw h refl
before_comment class line_comment left own n empty depth = (empty, depth, refl)
before_comment class open_comment left own n empty depth = tt
before_comment class block_comment left own n empty depth = tt
before_comment class leading_comment left own n empty depth = tt

-- the gap before a token and a neat text
pub token_gap_neat : (layout : Layout) (spot : Spot) (right : Role) (n : ℕ) (r : List ℕ) → NeatWord r
    → NeatAt spot.last spot.state.last (gap_text layout (gap_before_token layout spot right n) ++ r)
token_gap_neat layout spot right n r h =
    follows layout spot.last spot.state.last (gap_before_token layout spot right n) r
    (before_token (between layout spot right) spot.last spot.state.last right (counted spot n) _
    (depth_of (before_next spot right) right)) h

-- and the gap before a comment
pub comment_gap_neat : (layout : Layout) (spot : Spot) (right : Role) (class : ℕ) (own : Bool)
    (n : ℕ) (r : List ℕ) → NeatWord r
    → NeatAt spot.last spot.state.last (gap_text layout (gap_before_comment spot right class own n) ++ r)
comment_gap_neat layout spot right class own n r h =
    follows layout spot.last spot.state.last (gap_before_comment spot right class own n) r
    (before_comment class spot.last spot.state.last own (counted spot n) _
    (comment_depth (before_next spot right) right)) h

-- ---- comments, and the end of the text

pub closed_neat : (class : ℕ) (text : List ℕ) → Closed class text
    → (leads : Bool) (left : Role) (r : List ℕ) → NeatAt (comment_last class leads) left r
    → NeatWord (text ++ r)
closed_neat class text (closed_line xs h t) leads left r n = (refl, (refl, line_neat xs solid r h t (λ e. refl) n))
closed_neat class text (closed_block xs i) true left r n = (refl, (refl, ends_neat 0 xs i solid r n))
closed_neat class text (closed_block xs i) false left r n = (refl, (refl, ends_neat 0 xs i solid r n))

pub unclosed_neat : (class : ℕ) (text : List ℕ) → Unclosed class text → NeatWord text
unclosed_neat class text (unclosed xs i) = (refl, (refl, open_neat 0 xs i solid))

pub ending_neat : (last : Last) (left : Role) → NeatAt last left (ending last left)
ending_neat token left = go (is left beginning)
  where
    go : (b : Bool) → Neat outside (cond b start solid) (cond b [] (10 ∷ []))
    go true = refl
    go false = ((λ e. (refl, refl)), refl)
ending_neat line_comment left = ((λ e. (refl, refl)), refl)
ending_neat open_comment left = tt
ending_neat block_comment left = ((λ e. (refl, refl)), refl)
ending_neat leading_comment left = ((λ e. (refl, refl)), refl)
