-- Comments formatted before a token, and after the last token: what they are read as.
use Rattle.std.proofs.Common.{◌≡◌, ℕ, Bool, true, false, cond, refl, sym, ap, subst, ◌∙◌, List, [], ◌∷◌, ◌++◌, append_assoc, append-nil}
use Rattle.wgsl_model.specs.Tokens.ClassTable.{LineComment}
use Rattle.wgsl_model.specs.Tokens.Kind.{Kind}
use Rattle.wgsl_model.specs.Tokens.Trivia.{outside, after_trivia}
use Rattle.wgsl_model_tidy.specs.Pieces.{Piece, comments}
use Rattle.wgsl_model_tidy.specs.Roles.{Role, beginning, is}
use Rattle.wgsl_model_tidy.specs.Layout.{Layout, column_after}
use Rattle.wgsl_model_tidy.specs.Open.{LayoutState, between_items, depth_of, comment_depth, role_in, last_after}
use Rattle.wgsl_model_tidy.specs.Ahead.{is_comment, next_role, operand_follows}
use Rattle.wgsl_model_tidy.specs.LaidOut.{between, counted, before_next, Gap, broken, Last, token, line_comment, block_comment, leading_comment, open_comment, Spot, owned, line_end, gap_before_comment, gap_before_token, gap_text, token_gap, comment_gap, depth_after, piece_text, leads, comment_last, laid_from, ending}
use Rattle.wgsl_theory_tidy.proofs.Comments.{piece, AtLineEnd, nothing_left}
use Rattle.wgsl_theory_tidy.proofs.Laid.{after_comment_at, after_token_at}
use Rattle.wgsl_theory_tidy.proofs.Kept.Readings.{token_piece}
use Rattle.wgsl_theory_tidy.proofs.Kept.ClosedComments.{Closed, Unclosed, unclosed, AllClosed, AllClosedButLast, no_more, one_more, last_open}
use Rattle.wgsl_theory_tidy.proofs.Kept.Gaps.{gap_ends, gap_passed, gap_counted, closed_counted, closed_passed, unclosed_counted, unclosed_passed, closed_is_comment, unclosed_is_comment, closed_begins, unclosed_begins}
use Rattle.wgsl_theory_tidy.proofs.Kept.ShownTexts.{token_text, closed_text, unclosed_text}
use Rattle.wgsl_theory_tidy.proofs.Kept.Relaid.{relaid}
use Rattle.wgsl_theory_tidy.proofs.Kept.NeatTexts.{NeatWord}
use Rattle.wgsl_theory_tidy.proofs.Kept.NeatPieces.{NeatAt, token_gap_neat, comment_gap_neat, closed_neat, unclosed_neat, ending_neat}

-- ---- one piece formatted

-- the spot after a token, and after a comment, with the role of the first token from there on
abbrev spot_after_token : Layout → Spot → ℕ → List ℕ → ℕ → List Piece → Spot
spot_after_token layout spot class w n ps =
    let right = role_in spot.state class (operand_follows ps) in
    let gap = gap_before_token layout spot right n in
    let depth = depth_after gap spot.state.line in
    let column = column_after layout spot.column (gap_text layout gap ++ w) in
    after_token_at layout spot depth class right column

-- a comment as it is written there
abbrev comment_text : Layout → Spot → Role → ℕ → Bool → List ℕ → ℕ → List ℕ
comment_text layout spot right class own text n = piece_text layout spot
    (gap_before_comment spot right class own n) (piece class text n)

abbrev spot_after_comment : Layout → Spot → Role → ℕ → Bool → List ℕ → ℕ → Spot
spot_after_comment layout spot right class own text n =
    let gap = gap_before_comment spot right class own n in
    after_comment_at spot (depth_after gap spot.state.line)
    (comment_last class (leads gap spot.last spot.state.last))
    (column_after layout spot.column (gap_text layout gap ++ comment_text layout spot right class own text n))

token_laid : (layout : Layout) (spot : Spot) (class : ℕ) (w : List ℕ) (n : ℕ) (ps : List Piece)
    → is_comment class ≡ false
    → laid_from layout spot (piece class w n ∷ ps)
    ≡ gap_text layout (gap_before_token layout spot (role_in spot.state class (operand_follows ps)) n)
    ++ (w ++ laid_from layout (spot_after_token layout spot class w n ps) ps)
token_laid layout spot class w n ps h = shown ∙ ap with (token_text layout spot gap class w n h)
  where
    gap : Gap
    gap = gap_before_token layout spot (role_in spot.state class (operand_follows ps)) n

    with : List ℕ → List ℕ
    with text = gap_text layout gap ++ (text ++ laid_from layout (spot_after_token layout spot class text n ps) ps)

    shown : laid_from layout spot (piece class w n ∷ ps) ≡ with (piece_text layout spot gap (piece class w n))
    shown = rw h refl

token_relaid : (layout : Layout) (spot : Spot) (class : ℕ) (w : List ℕ) (n : ℕ) (ps : List Piece)
    → is_comment class ≡ false
    → relaid layout spot (piece class w n ∷ ps)
    ≡ piece class w (gap_ends (gap_before_token layout spot (role_in spot.state class (operand_follows ps)) n))
    ∷ relaid layout (spot_after_token layout spot class w n ps) ps
token_relaid layout spot class w n ps h = shown ∙ ap with (token_text layout spot gap class w n h)
  where
    gap : Gap
    gap = gap_before_token layout spot (role_in spot.state class (operand_follows ps)) n

    with : List ℕ → List Piece
    with text = piece class text (gap_ends gap) ∷ relaid layout (spot_after_token layout spot class text n ps) ps

    shown : relaid layout spot (piece class w n ∷ ps) ≡ with (piece_text layout spot gap (piece class w n))
    shown = rw h refl

comment_laid : (layout : Layout) (spot : Spot) (right : Role) (class : ℕ) (text : List ℕ) (n : ℕ)
    (ps : List Piece) → is_comment class ≡ true → next_role spot.state ps ≡ right
    → laid_from layout spot (piece class text n ∷ ps)
    ≡ gap_text layout (gap_before_comment spot right class (owned layout spot right ps) n)
    ++ (comment_text layout spot right class (owned layout spot right ps) text n
    ++ laid_from layout (spot_after_comment layout spot right class (owned layout spot right ps) text n) ps)
comment_laid layout spot right class text n ps h e = rw (h, e) refl

comment_relaid : (layout : Layout) (spot : Spot) (right : Role) (class : ℕ) (text : List ℕ) (n : ℕ)
    (ps : List Piece) → is_comment class ≡ true → next_role spot.state ps ≡ right
    → relaid layout spot (piece class text n ∷ ps)
    ≡ piece class (comment_text layout spot right class (owned layout spot right ps) text n)
    (gap_ends (gap_before_comment spot right class (owned layout spot right ps) n))
    ∷ relaid layout (spot_after_comment layout spot right class (owned layout spot right ps) text n) ps
comment_relaid layout spot right class text n ps h e = rw (h, e) refl

-- ---- after a line comment the line ends

broken_ends : (layout : Layout) (empty : Bool) (depth : ℕ) (r : List ℕ)
    → AtLineEnd (gap_text layout (broken empty depth) ++ r)
broken_ends layout true depth r = refl
broken_ends layout false depth r = refl

token_gap_ends : (layout : Layout) (spot : Spot) (right : Role) (n : ℕ) → spot.last ≡ line_comment
    → (r : List ℕ) → AtLineEnd (gap_text layout (gap_before_token layout spot right n) ++ r)
token_gap_ends layout spot right n e r =
    let break = line_end (between_items (before_next spot right) right) spot.last spot.state.last right (counted spot n)
    (depth_of (before_next spot right) right) in
    subst (λ l. AtLineEnd (gap_text layout
    (token_gap (between layout spot right) l spot.state.last right (counted spot n) break) ++ r))
    (sym e) (broken_ends layout _ (depth_of (before_next spot right) right) r)

comment_gap_ends : (layout : Layout) (spot : Spot) (right : Role) (class : ℕ) (own : Bool) (n : ℕ)
    → spot.last ≡ line_comment → (r : List ℕ)
    → AtLineEnd (gap_text layout (gap_before_comment spot right class own n) ++ r)
comment_gap_ends layout spot right class own n e r =
    let break = line_end (between_items (before_next spot right) right) spot.last spot.state.last
    beginning (counted spot n)
    (comment_depth (before_next spot right) right) in
    subst (λ l. AtLineEnd (gap_text layout (comment_gap class l spot.state.last own (counted spot n) break) ++ r))
    (sym e) (broken_ends layout _ (comment_depth (before_next spot right) right) r)

-- a comment of this class is a line comment
last_is_line : (class : ℕ) (leading : Bool) → class ≡ LineComment → comment_last class leading ≡ line_comment
last_is_line class leading e = ap (λ c. comment_last c leading) e

-- ---- comments before a token

-- the first token from there on, or nothing
trail_next : (s : LayoutState) (cs ps : List Piece) → AllClosed cs → next_role s (cs ++ ps) ≡ next_role s ps
trail_next s [] ps h = refl
trail_next s (c ∷ cs) ps h = rw (closed_is_comment c.class c.text h.0) (trail_next s cs ps h.1)

token_next : (s : LayoutState) (class : ℕ) (w : List ℕ) (n : ℕ) (ps : List Piece)
    → is_comment class ≡ false → next_role s (piece class w n ∷ ps) ≡ role_in s class (operand_follows ps)
token_next s class w n ps h = rw h refl

-- what is before a token of a role begins with the gap before the token, or with that before
-- a comment and with the comment
pub data TrailFront (layout : Layout) (spot : Spot) (cs : List Piece) (right : Role) (m : ℕ)
    (trivia : List ℕ) : Type 0 where
  token_front : cs ≡ [] → trivia ≡ gap_text layout (gap_before_token layout spot right m)
      → TrailFront layout spot cs right m trivia
  comment_front : (class : ℕ) (own : Bool) (n : ℕ) (more : List ℕ)
      → trivia ≡ gap_text layout (gap_before_comment spot right class own n) ++ (47 ∷ more)
      → TrailFront layout spot cs right m trivia

-- Comments and a token formatted after a spot, and others after them: what is before the
-- token, and the spot after it. That is passed over before whatever follows, and read again it
-- gives the comments.
pub record LaidTrail (layout : Layout) (spot : Spot) (cs : List Piece) (k : Kind) (w : List ℕ)
    (m : ℕ) (ps : List Piece) : Type 0 where
  pub trivia : List ℕ
  pub following : Spot
  pub is_token : following.last ≡ token
  pub is_last : following.state.last ≡ last_after spot.state (role_in spot.state k.class (operand_follows ps))
  pub whole : laid_from layout spot (cs ++ (token_piece k w m ∷ ps)) ≡ trivia ++ (w ++ laid_from layout following ps)
  pub passed : (r : List ℕ) → after_trivia outside (trivia ++ r) ≡ after_trivia outside r
  pub again : comments (λ n. token_piece k w n ∷ relaid layout following ps) outside 0 trivia
      ≡ relaid layout spot (cs ++ (token_piece k w m ∷ ps))
  pub front : TrailFront layout spot cs (role_in spot.state k.class (operand_follows ps)) m trivia
  pub at_line_end : spot.last ≡ line_comment → (r : List ℕ) → AtLineEnd (trivia ++ r)
  pub neat : (r : List ℕ) → NeatWord r → NeatAt spot.last spot.state.last (trivia ++ r)

-- no comment is there
laid_token : (layout : Layout) (spot : Spot) (k : Kind) (w : List ℕ) (m : ℕ) (ps : List Piece)
    → is_comment k.class ≡ false → LaidTrail layout spot [] k w m ps
laid_token layout spot k w m ps h =
    let right = role_in spot.state k.class (operand_follows ps) in
    let gap = gap_before_token layout spot right m in
    let following = spot_after_token layout spot k.class w m ps in
    let b : ℕ → List Piece = λ n. token_piece k w n ∷ relaid layout following ps in
    record {
      trivia = gap_text layout gap;
      following = following;
      is_token = refl;
      is_last = refl;
      whole = token_laid layout spot k.class w m ps h;
      passed = λ r. gap_passed layout gap r;
      again = ap (comments b outside 0) (sym (append-nil (gap_text layout gap)))
          ∙ gap_counted layout b gap [] ∙ nothing_left b (gap_ends gap)
          ∙ sym (token_relaid layout spot k.class w m ps h);
      front = token_front refl refl;
      at_line_end = λ e r. token_gap_ends layout spot right m e r;
      neat = λ r n. token_gap_neat layout spot right m r n;
    }

-- a gap, a comment, what follows it, and a rest
joined : (gap text trivia rest : List ℕ) → gap ++ (text ++ (trivia ++ rest)) ≡ (gap ++ (text ++ trivia)) ++ rest
joined gap text trivia rest = ap (λ xs. gap ++ xs) (sym (append_assoc text trivia rest))
    ∙ sym (append_assoc gap (text ++ trivia) rest)

-- one comment more
laid_comment : (layout : Layout) (spot : Spot) (class : ℕ) (text : List ℕ) (n : ℕ) (cs : List Piece)
    (k : Kind) (w : List ℕ) (m : ℕ) (ps : List Piece)
    → Closed class text
    → next_role spot.state (cs ++ (token_piece k w m ∷ ps)) ≡ role_in spot.state k.class (operand_follows ps)
    → LaidTrail layout (spot_after_comment layout spot (role_in spot.state k.class (operand_follows ps)) class
    (owned layout spot (role_in spot.state k.class (operand_follows ps)) (cs ++ (token_piece k w m ∷ ps)))
    text n) cs k w m ps → LaidTrail layout spot (piece class text n ∷ cs) k w m ps
laid_comment layout spot class text n cs k w m ps c e t =
    let right = role_in spot.state k.class (operand_follows ps) in
    let all = cs ++ (token_piece k w m ∷ ps) in
    let gap = gap_before_comment spot right class (owned layout spot right all) n in
    let shown = comment_text layout spot right class (owned layout spot right all) text n in
    let b : ℕ → List Piece = λ i. token_piece k w i ∷ relaid layout t.following ps in
    let d : Closed class shown = closed_text layout spot gap class text n c in
    let is = closed_is_comment class shown d in
    let begins = closed_begins class shown d in
    let ends : (r : List ℕ) → class ≡ LineComment → AtLineEnd (t.trivia ++ r) =
    λ r f. t.at_line_end (last_is_line class (leads gap spot.last spot.state.last) f) r in
    record {
      trivia = gap_text layout gap ++ (shown ++ t.trivia);
      following = t.following;
      is_token = t.is_token;
      is_last = t.is_last;
      whole = comment_laid layout spot right class text n all is e
          ∙ ap (λ xs. gap_text layout gap ++ (shown ++ xs)) t.whole
          ∙ joined (gap_text layout gap) shown t.trivia (w ++ laid_from layout t.following ps);
      passed = λ r. ap (after_trivia outside) (sym (joined (gap_text layout gap) shown t.trivia r))
          ∙ gap_passed layout gap (shown ++ (t.trivia ++ r))
          ∙ closed_passed class shown d (t.trivia ++ r) (ends r) ∙ t.passed r;
      again = gap_counted layout b gap (shown ++ t.trivia) ∙ closed_counted class shown d b
          (gap_ends gap) t.trivia (λ f. subst AtLineEnd (append-nil t.trivia) (ends [] f))
          ∙ ap (λ xs. piece class shown (gap_ends gap) ∷ xs) t.again
          ∙ sym (comment_relaid layout spot right class text n all is e);
      front = comment_front class (owned layout spot right all) n (begins.0 ++ t.trivia)
          (ap (λ xs. gap_text layout gap ++ (xs ++ t.trivia)) begins.1);
      at_line_end = λ f r. subst AtLineEnd (joined (gap_text layout gap) shown t.trivia r)
          (comment_gap_ends layout spot right class (owned layout spot right all) n f (shown ++ (t.trivia ++ r)));
      neat = λ r h. subst (NeatAt spot.last spot.state.last) (joined (gap_text layout gap) shown t.trivia r)
          (comment_gap_neat layout spot right class (owned layout spot right all) n
          (shown ++ (t.trivia ++ r)) (closed_neat class shown d
          (leads gap spot.last spot.state.last) spot.state.last (t.trivia ++ r) (t.neat r h)));
    }

pub laid_trail : (layout : Layout) (spot : Spot) (cs : List Piece) (k : Kind) (w : List ℕ) (m : ℕ)
    (ps : List Piece) → AllClosed cs → is_comment k.class ≡ false → LaidTrail layout spot cs k w m ps
laid_trail layout spot [] k w m ps h e = laid_token layout spot k w m ps e
laid_trail layout spot (c ∷ cs) k w m ps h e =
    laid_comment layout spot c.class c.text c.line_ends cs k w m ps h.0
    (trail_next spot.state cs (token_piece k w m ∷ ps) h.1 ∙ token_next spot.state k.class w m ps e)
    (laid_trail layout (spot_after_comment layout spot (role_in spot.state k.class
    (operand_follows ps)) c.class (owned layout spot (role_in spot.state k.class (operand_follows ps))
    (cs ++ (token_piece k w m ∷ ps))) c.text c.line_ends) cs k w m ps h.1 e)

-- ---- comments after the last token

-- the end of the text
ending_passed : (last : Last) (left : Role) → after_trivia outside (ending last left) ≡ []
unfolding after_trivia
ending_passed open_comment left = refl
ending_passed token left = go (is left beginning)
  where
    go : (b : Bool) → after_trivia outside (cond b [] (10 ∷ [])) ≡ []
    go true = refl
    go false = refl
ending_passed line_comment left = refl
ending_passed block_comment left = refl
ending_passed leading_comment left = refl

ending_again : (last : Last) (left : Role) → comments (λ n. []) outside 0 (ending last left) ≡ []
unfolding comments
ending_again open_comment left = refl
ending_again token left = go (is left beginning)
  where
    go : (b : Bool) → comments (λ n. []) outside 0 (cond b [] (10 ∷ [])) ≡ []
    go true = refl
    go false = refl
ending_again line_comment left = refl
ending_again block_comment left = refl
ending_again leading_comment left = refl

-- the text after the last token begins with its end, or with the gap before a comment and with the
-- comment
pub data LastFront (layout : Layout) (spot : Spot) (cs : List Piece) : Type 0 where
  end_front : cs ≡ [] → laid_from layout spot cs ≡ ending spot.last spot.state.last → LastFront layout spot cs
  last_front : (class : ℕ) (own : Bool) (n : ℕ) (more : List ℕ) → laid_from layout spot cs
      ≡ gap_text layout (gap_before_comment spot beginning class own n) ++ (47 ∷ more)
      → LastFront layout spot cs

-- Comments formatted after a spot at the end of a text: nothing is left of them, and read again
-- they are the same.
pub record LastLaid (layout : Layout) (spot : Spot) (cs : List Piece) : Type 0 where
  pub passed : after_trivia outside (laid_from layout spot cs) ≡ []
  pub again : comments (λ n. []) outside 0 (laid_from layout spot cs) ≡ relaid layout spot cs
  pub front : LastFront layout spot cs
  pub at_line_end : spot.last ≡ line_comment → AtLineEnd (laid_from layout spot cs)
  pub neat : NeatAt spot.last spot.state.last (laid_from layout spot cs)

laid_end : (layout : Layout) (spot : Spot) → LastLaid layout spot []
laid_end layout spot = record {
  passed = ending_passed spot.last spot.state.last;
  again = ending_again spot.last spot.state.last;
  front = end_front refl refl;
  at_line_end = λ e. subst (λ l. AtLineEnd (ending l spot.state.last)) (sym e) refl;
  neat = ending_neat spot.last spot.state.last;
}

-- no token is there
last_next : (s : LayoutState) (cs : List Piece) → AllClosedButLast cs → next_role s cs ≡ beginning
last_next s cs (no_more) = refl
last_next s cs (one_more p ps c h) = rw (closed_is_comment p.class p.text c) (last_next s ps h)
last_next s cs (last_open p u) = rw (unclosed_is_comment p.class p.text u) refl

-- one comment more
last_comment : (layout : Layout) (spot : Spot) (class : ℕ) (text : List ℕ) (n : ℕ) (cs : List Piece)
    → Closed class text → next_role spot.state cs ≡ beginning
    → LastLaid layout (spot_after_comment layout spot beginning class (owned layout spot beginning cs) text n) cs
    → LastLaid layout spot (piece class text n ∷ cs)
last_comment layout spot class text n cs c e t =
    let gap = gap_before_comment spot beginning class (owned layout spot beginning cs) n in
    let shown = comment_text layout spot beginning class (owned layout spot beginning cs) text n in
    let b : ℕ → List Piece = λ m. [] in
    let d : Closed class shown = closed_text layout spot gap class text n c in
    let is = closed_is_comment class shown d in
    let begins = closed_begins class shown d in
    let left = laid_from layout
    (spot_after_comment layout spot beginning class (owned layout spot beginning cs) text n) cs in
    let whole : laid_from layout spot (piece class text n ∷ cs) ≡ gap_text layout gap
    ++ (shown ++ left) = comment_laid layout spot beginning class text n cs is e in
    let ends : class ≡ LineComment → AtLineEnd left =
    λ f. t.at_line_end (last_is_line class (leads gap spot.last spot.state.last) f) in
    record {
      passed = ap (after_trivia outside) whole ∙ gap_passed layout gap (shown ++ left)
          ∙ closed_passed class shown d left ends ∙ t.passed;
      again = ap (comments b outside 0) whole ∙ gap_counted layout b gap (shown ++ left)
          ∙ closed_counted class shown d b (gap_ends gap) left ends
          ∙ ap (λ xs. piece class shown (gap_ends gap) ∷ xs) t.again
          ∙ sym (comment_relaid layout spot beginning class text n cs is e);
      front = last_front class (owned layout spot beginning cs) n (begins.0 ++ left)
          (whole ∙ ap (λ xs. gap_text layout gap ++ (xs ++ left)) begins.1);
      at_line_end = λ f. subst AtLineEnd (sym whole)
          (comment_gap_ends layout spot beginning class (owned layout spot beginning cs) n f (shown ++ left));
      neat = subst (NeatAt spot.last spot.state.last) (sym whole)
          (comment_gap_neat layout spot beginning class (owned layout spot beginning cs) n (shown ++ left)
          (closed_neat class shown d (leads gap spot.last spot.state.last) spot.state.last left t.neat));
    }

-- nothing is written after a comment that is not closed
unclosed_end : (class : ℕ) (text : List ℕ) → Unclosed class text → (leading : Bool) (left : Role)
    → ending (comment_last class leading) left ≡ []
unclosed_end class text (unclosed xs i) leading left = refl

open_comment_last : (layout : Layout) (spot : Spot) (class : ℕ) (text : List ℕ) (n : ℕ)
    → Unclosed class text → LastLaid layout spot (piece class text n ∷ [])
open_comment_last layout spot class text n u =
    let gap = gap_before_comment spot beginning class (owned layout spot beginning []) n in
    let shown = comment_text layout spot beginning class (owned layout spot beginning []) text n in
    let b : ℕ → List Piece = λ m. [] in
    let v : Unclosed class shown = unclosed_text layout spot gap class text n u in
    let is = unclosed_is_comment class shown v in
    let begins = unclosed_begins class shown v in
    let whole : laid_from layout spot (piece class text n ∷ []) ≡ gap_text layout gap ++ shown =
    comment_laid layout spot beginning class text n [] is refl ∙ ap (λ xs. gap_text layout gap
    ++ (shown ++ xs)) (unclosed_end class shown v (leads gap spot.last spot.state.last) spot.state.last)
    ∙ ap (λ xs. gap_text layout gap ++ xs) (append-nil shown) in
    record {
      passed = ap (after_trivia outside) whole ∙ gap_passed layout gap shown
          ∙ unclosed_passed class shown v;
      again = ap (comments b outside 0) whole ∙ gap_counted layout b gap shown
          ∙ unclosed_counted class shown v b (gap_ends gap)
          ∙ sym (comment_relaid layout spot beginning class text n [] is refl);
      front = last_front class (owned layout spot beginning []) n begins.0
          (whole ∙ ap (λ xs. gap_text layout gap ++ xs) begins.1);
      at_line_end = λ f. subst AtLineEnd (sym whole)
          (comment_gap_ends layout spot beginning class (owned layout spot beginning []) n f shown);
      neat = subst (NeatAt spot.last spot.state.last) (sym whole) (comment_gap_neat layout spot
          beginning class (owned layout spot beginning []) n shown (unclosed_neat class shown v));
    }

pub last_laid : (layout : Layout) (spot : Spot) (cs : List Piece) → AllClosedButLast cs → LastLaid layout spot cs
last_laid layout spot cs (no_more) = laid_end layout spot
last_laid layout spot cs (one_more p ps c h) =
    last_comment layout spot p.class p.text p.line_ends ps c (last_next spot.state ps h) (last_laid layout
    (spot_after_comment layout spot beginning p.class (owned layout spot beginning ps) p.text p.line_ends) ps h)
last_laid layout spot cs (last_open p u) = open_comment_last layout spot p.class p.text p.line_ends u
