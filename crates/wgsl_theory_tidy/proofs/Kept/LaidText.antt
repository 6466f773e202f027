-- A laid-out text has the tokens and the pieces that were formatted.
use Rattle.std.proofs.Common.{◌≡◌, ℕ, false, refl, sym, ap, subst, ◌∙◌, List, [], ◌∷◌, ◌++◌, append_assoc, append-nil}
use Rattle.wgsl_model.specs.Tokens.ClassTable.{TemplateArgsStart, SymLessThan}
use Rattle.wgsl_model.specs.Tokens.Kind.{Kind, plain}
use Rattle.wgsl_model.specs.Tokens.Raw.{Raw.none_left, Raw.token as raw_token, raw, raw_at}
use Rattle.wgsl_model.specs.Tokens.Trivia.{outside, after_trivia}
use Rattle.wgsl_theory_templates.proofs.Reaching.Reach.{Role as ListRole, Role.template_start, Role.template_end, role}
use Rattle.wgsl_theory_templates.proofs.Lexed.RoleClasses.{is_mark_role}
use Rattle.wgsl_theory_templates.proofs.Lexed.LexedAlong.{BeginsWith, along_role, Along}
use Rattle.wgsl_theory_printed.proofs.Spelling.Along.{after_one}
use Rattle.wgsl_model_tidy.specs.Pieces.{Piece, comments}
use Rattle.wgsl_model_tidy.specs.Roles.{Role, beginning}
use Rattle.wgsl_model_tidy.specs.Layout.{Layout}
use Rattle.wgsl_model_tidy.specs.Open.{role_in, last_after}
use Rattle.wgsl_model_tidy.specs.Ahead.{operand_follows}
use Rattle.wgsl_model_tidy.specs.LaidOut.{token, Spot, gap_before_comment, laid_from, gap_text}
use Rattle.wgsl_theory_tidy.proofs.Kept.Touching.{Shaped}
use Rattle.wgsl_theory_tidy.proofs.Kept.TokenRoles.{Starts, token_starts, starts_so}
use Rattle.wgsl_theory_tidy.proofs.Kept.Parted.{PartsBefore, parts_before_token, parts_before_comment, parts_before_ending, token_again, start_again}
use Rattle.wgsl_theory_tidy.proofs.Kept.Readings.{IsToken, is_word, is_start, is_end, is_slash, is_slash_equal, token_piece, Reads, reads_end, reads_token}
use Rattle.wgsl_theory_tidy.proofs.Kept.LaidTokens.{no_comment, token_here, same_before, same_token}
use Rattle.wgsl_theory_tidy.proofs.Kept.Trails.{trail, last_trail}
use Rattle.wgsl_theory_tidy.proofs.Kept.Relaid.{relaid}
use Rattle.wgsl_theory_tidy.proofs.Kept.NeatPieces.{NeatAt}
use Rattle.wgsl_theory_tidy.proofs.Kept.NeatWords.{token_neat}
use Rattle.wgsl_theory_tidy.proofs.Kept.LaidTrails.{TrailFront, token_front, comment_front, LaidTrail, laid_trail, LastFront, end_front, last_front, last_laid}

-- ---- comments and a token of a text

-- a token has characters
pub has_characters : (k : Kind) (w rest : List ℕ) → IsToken k w rest → w ++ rest ≡ [] → ⊥
has_characters k [] rest i e = absurd (token_starts false k [] rest i)
has_characters k (x ∷ xs) rest i e = absurd cc

-- the comments before a token, and how they are formatted with it
record Before (layout : Layout) (trivia : List ℕ) (k : Kind) (w : List ℕ) (spot : Spot) (ps : List Piece) : Type 0 where
  trail_of : List Piece
  line_ends : ℕ
  pieces : comments (λ n. token_piece k w n ∷ ps) outside 0 trivia ≡ trail_of ++ (token_piece k w line_ends ∷ ps)
  laid : LaidTrail layout spot trail_of k w line_ends ps

before : (layout : Layout) (trivia w rest : List ℕ) (k : Kind) (ps : List Piece) (spot : Spot)
    → after_trivia outside (trivia ++ (w ++ rest)) ≡ w ++ rest → IsToken k w rest
    → Before layout trivia k w spot ps
before layout trivia w rest k ps spot p i =
    let t = trail trivia (w ++ rest) p (has_characters k w rest i) 0 in
    record {
      trail_of = t.0;
      line_ends = t.1;
      pieces = t.3 (λ n. token_piece k w n ∷ ps);
      laid = laid_trail layout spot t.0 k w t.1 ps t.2 (no_comment k w rest i);
    }

-- ---- what is formatted after a token makes no more of it

trail_parts : (layout : Layout) (spot : Spot) (w : List ℕ) → spot.last ≡ token → Shaped spot.state.last w
    → (cs : List Piece) (right : Role) (v : List ℕ) (m : ℕ) (trivia more : List ℕ) → Starts right v
    → TrailFront layout spot cs right m trivia
    → PartsBefore w (trivia ++ (v ++ more))
trail_parts layout spot w t h cs right v m trivia more s (token_front e q) =
    subst (λ xs. PartsBefore w (xs ++ (v ++ more))) (sym q) (parts_before_token layout spot right m w v more t h s)
trail_parts layout spot w t h cs right v m trivia more s (comment_front class own n others q) =
    let gap = gap_text layout (gap_before_comment spot right class own n) in
    subst (PartsBefore w) (sym (ap (λ xs. xs ++ (v ++ more)) q ∙ append_assoc gap (47 ∷ others) (v ++ more)))
    (parts_before_comment layout spot right class own n w (others ++ (v ++ more)) t h)

last_parts : (layout : Layout) (spot : Spot) (w : List ℕ) → spot.last ≡ token → Shaped spot.state.last w
    → (cs : List Piece) → LastFront layout spot cs → PartsBefore w (laid_from layout spot cs)
last_parts layout spot w t h cs (end_front e q) = subst (PartsBefore w) (sym q) (parts_before_ending spot w t h)
last_parts layout spot w t h cs (last_front class own n more q) = subst (PartsBefore w) (sym q)
    (parts_before_comment layout spot beginning class own n w more t h)

pub after_parts : (layout : Layout) (text : List ℕ) (ks : List Kind) (ps : List Piece)
    → Reads text ks ps → (spot : Spot) (w : List ℕ) → spot.last ≡ token → Shaped spot.state.last w
    → PartsBefore w (laid_from layout spot ps)
after_parts layout _ _ _ (reads_end text e) spot w t h =
    let l = last_trail text e 0 in
    subst (λ ps. PartsBefore w (laid_from layout spot ps)) (sym (l.3 (λ n. []) ∙ append-nil l.0))
    (last_parts layout spot w t h l.0 (last_laid layout spot l.0 l.2).front)
after_parts layout _ _ _ (reads_token trivia v rest k ks ps p i r) spot w t h =
    let b = before layout trivia v rest k ps spot p i in
    subst (PartsBefore w) (sym (ap (laid_from layout spot) b.pieces ∙ b.laid.whole))
    (trail_parts layout spot w t h b.trail_of _ v b.line_ends b.laid.trivia (laid_from layout
    b.laid.following ps) (starts_so spot.state k (operand_follows ps) v rest i) b.laid.front)

-- ---- the comments before a token, the token, and what is formatted after it

record Laid (layout : Layout) (spot : Spot) (k : Kind) (w : List ℕ) (ps all : List Piece) : Type 0 where
  trivia : List ℕ
  following : Spot
  whole : laid_from layout spot all ≡ trivia ++ (w ++ laid_from layout following ps)
  passed : (r : List ℕ) → after_trivia outside (trivia ++ r) ≡ after_trivia outside r
  again : comments (λ n. token_piece k w n ∷ relaid layout following ps) outside 0 trivia ≡ relaid layout spot all
  is_token : IsToken k w (laid_from layout following ps)
  less : k.class ≡ TemplateArgsStart → raw (60 ∷ laid_from layout following ps)
      ≡ raw_token (plain SymLessThan) (60 ∷ laid_from layout following ps) (laid_from layout following ps)
  neat : NeatAt following.last following.state.last (laid_from layout following ps)
      → NeatAt spot.last spot.state.last (laid_from layout spot all)

laid : (layout : Layout) (trivia w rest : List ℕ) (k : Kind) (ks : List Kind) (ps : List Piece) (spot : Spot)
    → after_trivia outside (trivia ++ (w ++ rest)) ≡ w ++ rest → IsToken k w rest → Reads rest ks ps
    → Laid layout spot k w ps (comments (λ n. token_piece k w n ∷ ps) outside 0 trivia)
laid layout trivia w rest k ks ps spot p i r =
    let b = before layout trivia w rest k ps spot p i in
    let t = b.laid in
    let text = laid_from layout t.following ps in
    let operand = operand_follows ps in
    let parts : (v : List ℕ) → Shaped (last_after spot.state (role_in spot.state k.class operand)) v
    → PartsBefore v (laid_from layout t.following ps) =
    λ v h. after_parts layout rest ks ps r t.following v t.is_token (subst (λ left. Shaped left v) (sym t.is_last) h) in
    let whole = ap (laid_from layout spot) b.pieces ∙ t.whole in
    let is : IsToken k w text = token_again spot.state k operand w rest text i (parts w) in
    record {
      trivia = t.trivia;
      following = t.following;
      whole = whole;
      passed = t.passed;
      again = t.again ∙ ap (relaid layout spot) (sym b.pieces);
      is_token = is;
      less = λ e. start_again spot.state (laid_from layout t.following ps)
          (subst (λ class. Shaped (last_after spot.state (role_in spot.state class operand))
          (60 ∷ []) → PartsBefore (60 ∷ []) (laid_from layout t.following ps)) e (parts (60 ∷ [])));
      neat = λ h. subst (NeatAt spot.last spot.state.last) (sym whole)
          (t.neat (w ++ text) (token_neat spot.state k operand w text is (subst (λ left. NeatAt token
          left text) t.is_last (subst (λ last. NeatAt last t.following.state.last text) t.is_token h))));
    }

-- ---- the laid-out text is read along the kinds

unmarked_along : (r : ListRole) (k : Kind) (Rest : List ℕ → Type 0) (text : List ℕ)
    → is_mark_role r ≡ false → BeginsWith k Rest text → along_role r k Rest text
unmarked_along template_start k Rest text m h = absurd cc
unmarked_along template_end k Rest text m h = absurd cc
unmarked_along r k Rest text m h = h

along_token : (k : Kind) (w text : List ℕ) → IsToken k w text
    → (k.class ≡ TemplateArgsStart → raw (60 ∷ text) ≡ raw_token (plain SymLessThan) (60 ∷ text) text)
    → (Rest : List ℕ → Type 0) → Rest text → (all : List ℕ) → raw all ≡ raw (w ++ text)
    → along_role (role k.class) k Rest all
along_token k w text (is_word j v r m s e) less Rest a all q =
    unmarked_along (role k.class) k Rest all m (w ++ text, text, q ∙ e, a)
along_token k w text (is_start r) less Rest a all q =
    (plain SymLessThan, 60 ∷ text, text, q ∙ less refl, refl, (refl, a))
along_token k w text (is_end r) less Rest a all q =
    let g = after_one text in (g.kind, 62 ∷ text, g.after, q ∙ g.is_token, g.greater, (refl, a))
along_token k w text (is_slash r e) less Rest a all q = (47 ∷ text, text, q ∙ e, a)
along_token k w text (is_slash_equal r e) less Rest a all q = (47 ∷ (61 ∷ text), text, q ∙ e, a)

pub laid_along : (layout : Layout) (text : List ℕ) (ks : List Kind) (ps : List Piece)
    → Reads text ks ps → (spot : Spot) → Along ks (laid_from layout spot ps)
laid_along layout _ _ _ (reads_end text e) spot =
    let t = last_trail text e 0 in
    subst (λ ps. raw (laid_from layout spot ps) ≡ none_left) (sym (t.3 (λ n. []) ∙ append-nil t.0))
    (ap raw_at (last_laid layout spot t.0 t.2).passed)
laid_along layout _ _ _ (reads_token trivia w rest k ks ps p i r) spot =
    let l = laid layout trivia w rest k ks ps spot p i r in
    let text = laid_from layout l.following ps in
    along_token k w text l.is_token l.less (λ x. Along ks x)
    (laid_along layout rest ks ps r l.following) _ (ap raw l.whole ∙ ap raw_at (l.passed (w ++ text)))

-- ---- it is neat

pub laid_neat : (layout : Layout) (text : List ℕ) (ks : List Kind) (ps : List Piece)
    → Reads text ks ps → (spot : Spot) → NeatAt spot.last spot.state.last (laid_from layout spot ps)
laid_neat layout _ _ _ (reads_end text e) spot =
    let t = last_trail text e 0 in
    subst (λ ps. NeatAt spot.last spot.state.last (laid_from layout spot ps))
    (sym (t.3 (λ n. []) ∙ append-nil t.0)) (last_laid layout spot t.0 t.2).neat
laid_neat layout _ _ _ (reads_token trivia w rest k ks ps p i r) spot =
    let l = laid layout trivia w rest k ks ps spot p i r in
    l.neat (laid_neat layout rest ks ps r l.following)

-- ---- its pieces are those that were formatted

pub laid_pieces : (layout : Layout) (text : List ℕ) (ks : List Kind) (ps : List Piece)
    → Reads text ks ps → (spot : Spot) (out : List ℕ) (js : List Kind) (qs : List Piece)
    → Reads out js qs → out ≡ laid_from layout spot ps → js ≡ ks → qs ≡ relaid layout spot ps
laid_pieces layout _ _ _ (reads_end text e) spot _ _ _ (reads_end out f) q s =
    let t = last_trail text e 0 in
    let w = t.3 (λ n. []) ∙ append-nil t.0 in
    ap (comments (λ n. []) outside 0) (q ∙ ap (laid_from layout spot) w)
    ∙ (last_laid layout spot t.0 t.2).again ∙ ap (relaid layout spot) (sym w)
laid_pieces layout _ _ _ (reads_end text e) spot _ _ _ (reads_token trivia w rest k ks ps p i r) q s = absurd cc
laid_pieces layout _ _ _ (reads_token trivia w rest k ks ps p i r) spot _ _ _ (reads_end out f) q s = absurd cc
laid_pieces layout _ _ _ (reads_token trivia w rest k ks ps p i r) spot _ _ _
    (reads_token other v more j js qs o g x) q s =
    let l = laid layout trivia w rest k ks ps spot p i r in
    let text = laid_from layout l.following ps in
    let kind : j ≡ k = cc in
    let kinds : js ≡ ks = cc in
    let seen : v ++ more ≡ w ++ text = sym o ∙ ap (after_trivia outside) (q ∙ l.whole)
    ∙ l.passed (w ++ text) ∙ token_here k w text l.is_token in
    let same = same_token k v more w text (subst (λ (m : Kind). IsToken m v more) kind g) l.is_token seen in
    let first : other ≡ l.trivia = same_before other l.trivia (w ++ text)
    (ap (λ xs. other ++ xs) (sym seen) ∙ q ∙ l.whole) in
    let left : qs ≡ relaid layout l.following ps =
    laid_pieces layout rest ks ps r l.following more js qs x same.1 kinds in
    ap (λ xs. comments (λ n. token_piece j v n ∷ qs) outside 0 xs) first
    ∙ ap (λ (m : Kind). comments (λ n. token_piece m v n ∷ qs) outside 0 l.trivia) kind
    ∙ ap (λ u. comments (λ n. token_piece k u n ∷ qs) outside 0 l.trivia) same.0
    ∙ ap (λ us. comments (λ n. token_piece k w n ∷ us) outside 0 l.trivia) left
    ∙ l.again
