-- A source of which the tokens are read and written in turn.
use Rattle.std.proofs.Common.{◌≡◌, ℕ, suc, ◌+◌, ◌-◌, ◌==◌, true, false, refl, sym, ap, ap₂, subst, ◌∙◌, List, [], ◌∷◌, ◌++◌, take, drop, drop_of_length-le, length, length-drop, chars, arith}
use Rattle.std.specs.Prelude.{string_bytes}
use Rattle.std.specs.List.{list_all}
use Rattle.std.specs.Str.{IsUtf8}
use Rattle.std.proofs.lemmas.Bool.{true≢false}
use Rattle.std.proofs.lemmas.Str.{encodes-chars}
use Rattle.std.proofs.Math.Seq.{take-length}
use Rattle.grammar.specs.Tokens.{Token}
use Rattle.wgsl_model.specs.Tokens.Places.{width}
use Rattle.wgsl_model.specs.Tokens.Trivia.{outside}
use Rattle.wgsl_model_tidy.specs.Pieces.{between, comments, pieces, pieces_from}
use Rattle.wgsl_model_tidy.specs.Roles.{beginning}
use Rattle.wgsl_model_tidy.specs.Joints.{nothing}
use Rattle.wgsl_model_tidy.specs.Layout.{Layout as Plain}
use Rattle.wgsl_model_tidy.specs.Open.{LayoutState, start}
use Rattle.wgsl_model_tidy.specs.Ahead.{Ahead, tokens_ahead}
use Rattle.wgsl_model_tidy.specs.LaidOut.{Spot, laid_from, laid_out, first_spot}
use Rattle.wgsl_theory_tidy.proofs.Comments.{and_false}
use Rattle.wgsl_lexer.specs.TextTokens.{tokens_left}
use Rattle.wgsl_format_layout.specs.Layouts.{layout_view}
use Rattle.wgsl_format_layout.specs.Left.{AreLeftFrom}
use Rattle.wgsl_format_layout.specs.Contexts.{IsContext}
use Rattle.wgsl_format_layout.specs.Marks.{AreAhead, AreInOrder}
use Rattle.wgsl_format_layout.specs.Walks.{AreMatched}
use Rattle.wgsl_format_layout.specs.Windows.{AreClosed}
use Rattle.wgsl_format_layout.specs.Reads.{AreRead}
use Rattle.wgsl_format_layout.specs.Reading.{IsLeft, ahead_left, last_end, HasRead}
use Rattle.wgsl_format_layout.specs.Alike.{AreAlike}
use Rattle.wgsl_format_layout.specs.Outputs.{IsAt, WritesComments}
use Rattle.wgsl_format_layout.specs.Spots.{is_known, AreClosedIfAny, IsNext, HasUpTo, pieces_next}
use Rattle.wgsl_format_layout.specs.declared.layout.Layout.{Layout}
use Rattle.wgsl_format_layout.specs.declared.marks.Mark.{Mark}
use Rattle.wgsl_format_layout.specs.declared.marks.MarkedToken.{MarkedToken}
use Rattle.wgsl_format_layout.specs.declared.marks.Marks.{Marks}
use Rattle.wgsl_format_layout.specs.declared.output.Output.{Output}
use Rattle.wgsl_format_layout.proofs.AheadOrder.{in_order}
use Rattle.wgsl_format_layout.proofs.KnownAhead.{ahead_known, known_front}
use Rattle.wgsl_format_layout.proofs.Following.{matched}
use Rattle.wgsl_format_layout.proofs.OrderClosed.{order_closed}

-- ---- tokens that are written, and then others

pub more_written : (source : List ℕ) (tokens : List MarkedToken) (byte to end place later : ℕ) (old middle new : Output)
    (spot : Spot) (marks : Marks) (after : LayoutState) (left : List Token)
    → (h : HasUpTo source tokens byte old spot marks after left place to middle)
    → HasUpTo source tokens to middle h.next_spot marks after h.is_next.left (suc place) end new → suc place ≡ later
    → HasUpTo source tokens byte old spot marks after left later end new
more_written source tokens byte to end place later old middle new spot marks after left h w e =
    subst (λ k. HasUpTo source tokens byte old spot marks after left k end new) e (record {
      next_spot = w.next_spot;
      is_next = w.is_next;
      layout = w.layout ∙ h.layout;
      laid = h.laid
          ∙ subst (λ (l : Layout). chars (string_bytes middle.text.string) ++ laid_from (layout_view l) h.next_spot
          (pieces_next source to h.is_next.left)
          ≡ chars (string_bytes new.text.string)
          ++ laid_from (layout_view l) w.next_spot (pieces_next source end w.is_next.left))
          h.layout w.laid;
    })

-- ---- a source that is written up to the end of what is read

pub record IsEnded (source : List ℕ) (layout : Layout) (all : List Token) (marks : Marks) (byte : ℕ)
    (o : Output) : Type 0 where
  pub spot : Spot
  pub state : LayoutState
  pub left : IsLeft marks
  pub same : marks.source.now ≡ source
  pub chosen : marks.layout ≡ layout
  pub written : o.text.line.layout ≡ layout
  pub context : IsContext marks.context state
  pub at : byte ≡ marks.byte
  pub is_at : IsAt o spot
  pub alike : AreAlike state spot.state
  pub ahead : spot.ahead ≡ ahead_left marks state
  pub end : o.end ≡ marks.end
  pub laid : laid_out (layout_view layout) (pieces (chars source) all)
      ≡ chars (string_bytes o.text.string) ++ laid_from (layout_view layout) spot
      (pieces_next source byte (tokens_left marks.left))

-- nothing is written yet
pub nothing_laid : (source : List ℕ) (layout : Layout) (all : List Token) (marks : Marks) (o : Output) → IsLeft marks
    → marks.source.now ≡ source → marks.layout ≡ layout → o.text.line.layout ≡ layout → IsContext marks.context start
    → marks.byte ≡ 0 → tokens_left marks.left ≡ all → o.end.column ≡ marks.end.column → o.end.breaks ≡ marks.end.breaks
    → chars (string_bytes o.text.string) ≡ []
    → IsAt o (first_spot (layout_view layout) (pieces (chars source) all)) → IsEnded source layout all marks 0 o
nothing_laid source layout all marks o left same chosen written context byte tokens column breaks empty is_at = record {
  spot = first_spot (layout_view layout) (pieces (chars source) all);
  state = start;
  left = left;
  same = same;
  chosen = chosen;
  written = written;
  context = context;
  at = sym byte;
  is_at = is_at;
  alike = record { last = refl; structure = refl; kinds = refl };
  ahead = ap₂ (λ (l : Layout) ts. tokens_ahead (layout_view l) start (pieces_from (chars source) 0 ts))
      (sym chosen) (sym tokens)
      ∙ ap₂ (λ xs n. tokens_ahead (layout_view marks.layout) start (pieces_from (chars xs) n (tokens_left marks.left)))
      (sym same) (sym byte);
  end = ap₂ (λ c b. record { column = c; breaks = b }) column breaks;
  laid = ap (λ ts. laid_from (layout_view layout) (first_spot (layout_view layout) (pieces (chars source) all))
      (pieces_from (chars source) 0 ts)) (sym tokens)
      ∙ ap (λ xs. xs ++ laid_from (layout_view layout) (first_spot (layout_view layout) (pieces (chars source) all))
      (pieces_from (chars source) 0 (tokens_left marks.left))) (sym empty);
}

-- ---- a source of which tokens are read

pub record IsLaid (source : List ℕ) (layout : Layout) (all : List Token) (marks : Marks) (byte : ℕ)
    (o : Output) : Type 0 where
  pub spot : Spot
  pub state : LayoutState
  pub left : IsLeft marks
  pub same : marks.source.now ≡ source
  pub chosen : marks.layout ≡ layout
  pub written : o.text.line.layout ≡ layout
  pub context : IsContext marks.context state
  pub next : IsNext source marks.tokens.items 0 byte o spot marks state
  pub matched : AreMatched marks.tokens.items
  pub none : marks.tokens.items ≡ [] → tokens_left marks.left ≡ []
  pub laid : laid_out (layout_view layout) (pieces (chars source) all)
      ≡ chars (string_bytes o.text.string) ++ laid_from (layout_view layout) spot (pieces_next source byte next.left)

if_any : (near far : List Ahead) → AreClosed near far → AreClosedIfAny near far
if_any [] far h = tt
if_any (t ∷ ts) far h = h

pub laid_read : (source : List ℕ) (layout : Layout) (all : List Token) (marks new : Marks) (byte : ℕ) (o : Output)
    → (e : IsEnded source layout all marks byte o) → HasRead marks e.state new → IsLeft new
    → IsLaid source layout all new byte o
laid_read source layout all marks new byte o e r left =
    let closed = if_any r.near (ahead_left new r.state) r.closed in
    let order = in_order (layout_view marks.layout) e.state
    (pieces_from (chars marks.source.now) marks.byte (tokens_left marks.left)) in
    let known = ahead_known (layout_view marks.layout) e.state
    (pieces_from (chars marks.source.now) marks.byte (tokens_left marks.left)) in
    record {
      spot = e.spot;
      state = r.state;
      left = left;
      same = r.source ∙ e.same;
      chosen = r.layout ∙ e.chosen;
      written = e.written;
      context = r.context;
      next = record {
        left = tokens_left marks.left;
        state = e.state;
        near = r.near;
        level = length e.state.opened;
        is_at = e.is_at;
        alike = e.alike;
        ahead = e.ahead ∙ r.ahead;
        follow = record {
          are = subst (λ (x : Mark). AreAhead x 0 new.tokens.items r.near) (sym e.end) r.are;
          order = order_closed (length e.state.opened) r.near (ahead_left new r.state)
              (subst (AreInOrder (length e.state.opened)) r.ahead order) closed;
        };
        known = known_front r.near (ahead_left new r.state) (subst (λ ts. list_all is_known ts ≡ true) r.ahead known);
        closed = closed;
        places = subst (λ n. AreLeftFrom source n (tokens_left marks.left)) (sym e.at)
            (subst (λ xs. AreLeftFrom xs marks.byte (tokens_left marks.left)) e.same e.left);
        read = subst (λ n. AreRead source n e.state (tokens_left marks.left) new.tokens.items new.byte r.state
            (tokens_left new.left)) (sym e.at)
            (subst (λ xs. AreRead xs marks.byte e.state (tokens_left marks.left) new.tokens.items new.byte r.state
            (tokens_left new.left)) e.same r.read);
        stops = ap (λ (x : Mark). last_end x new.tokens.items) e.end ∙ sym r.end;
      };
      matched = matched marks.end new.tokens.items r.near r.are;
      none = r.none;
      laid = e.laid;
    }

-- ---- and all of them are written

ahead_none : (end : Mark) (place : ℕ) (near : List Ahead) → AreAhead end place [] near → near ≡ []
ahead_none end place [] h = refl
ahead_none end place (t ∷ ts) h = absurd h

past_all : (tokens : List MarkedToken) → drop (length tokens) tokens ≡ []
past_all tokens = drop_of_length-le tokens (omega arith)

pub laid_all : (source : List ℕ) (layout : Layout) (all : List Token) (marks : Marks) (byte to : ℕ) (old new : Output)
    → (l : IsLaid source layout all marks byte old)
    → HasUpTo source marks.tokens.items byte old l.spot marks l.state l.next.left (length marks.tokens.items) to new
    → IsEnded source layout all marks to new
laid_all source layout all marks byte to old new l h =
    let n = h.is_next in
    let tokens = marks.tokens.items in
    let read = subst (λ ms. AreRead source to n.state n.left ms marks.byte l.state (tokens_left marks.left))
    (past_all tokens) n.read in
    let near = ahead_none new.end (length tokens) n.near
    (subst (λ ms. AreAhead new.end (length tokens) ms n.near) (past_all tokens) n.follow.are) in
    record {
      spot = h.next_spot;
      state = l.state;
      left = l.left;
      same = l.same;
      chosen = l.chosen;
      written = h.layout ∙ l.written;
      context = l.context;
      at = sym read.0;
      is_at = n.is_at;
      alike = subst (λ (s : LayoutState). AreAlike s h.next_spot.state) (sym read.1) n.alike;
      ahead = n.ahead ∙ ap (λ ts. ts ++ ahead_left marks l.state) near;
      end = subst (λ ms. last_end new.end ms ≡ marks.end) (past_all tokens) n.stops;
      laid = l.laid
          ∙ subst (λ (k : Layout). chars (string_bytes old.text.string) ++ laid_from (layout_view k) l.spot
          (pieces_next source byte l.next.left)
          ≡ chars (string_bytes new.text.string)
          ++ laid_from (layout_view k) h.next_spot (pieces_next source to n.left))
          l.written h.laid
          ∙ ap (λ ts. chars (string_bytes new.text.string) ++ laid_from (layout_view layout) h.next_spot
          (pieces_next source to ts)) (sym read.2);
    }

-- ---- how many are left

pub read_fewer : (source : List ℕ) (from : ℕ) (state : LayoutState) (ts : List Token) (ms : List MarkedToken) (to : ℕ)
    (after : LayoutState) (left : List Token) → AreRead source from state ts ms to after left
    → length ts ≡ length ms + length left
read_fewer source from state ts [] to after left h = ap length (sym h.2) ∙ omega arith
read_fewer source from state [] (m ∷ ms) to after left h = absurd h
read_fewer source from state (t ∷ ts) (m ∷ ms) to after left h =
    let later = read_fewer source t.end _ ts ms to after left h.1 in omega (arith, later)

-- ---- after the last token

-- the characters of the rest of a source
rest_chars : (source part : List ℕ) (from : ℕ) → IsUtf8 source → part ≡ drop from source
    → chars part ≡ between (chars source) from (width (chars source))
rest_chars source part from u e =
    ap chars (e ∙ sym (take-length (drop from source)) ∙ ap (λ m. take m (drop from source)) (length-drop from source))
    ∙ ap (λ bs. chars (take (length bs - from) (drop from bs))) (sym (encodes-chars source u))

-- only comments are left
pub comments_left : (source part : List ℕ) (layout : Layout) (all : List Token) (marks : Marks) (byte : ℕ) (o : Output)
    → (l : IsLaid source layout all marks byte o) → marks.tokens.items ≡ [] → IsUtf8 source → part ≡ drop byte source
    → pieces_next source byte l.next.left ≡ comments (λ m. []) outside 0 (chars part)
comments_left source part layout all marks byte o l empty u e =
    let read = subst (λ ms. AreRead source byte l.next.state l.next.left ms marks.byte l.state (tokens_left marks.left))
    empty l.next.read in
    ap (λ ts. pieces_next source byte ts) (sym read.2 ∙ l.none empty)
    ∙ ap (comments (λ m. []) outside 0) (sym (rest_chars source part byte u e))

-- they are written, and what is after them
pub end_laid : (source part text : List ℕ) (layout : Layout) (all : List Token) (marks : Marks) (byte n : ℕ)
    (o new : Output) → IsLaid source layout all marks byte o → marks.tokens.items ≡ [] → IsUtf8 source
    → part ≡ drop byte source → WritesComments o (chars part) nothing beginning false n new
    → ((layout : Plain) (spot : Spot) → IsAt new spot
    → text ≡ chars (string_bytes new.text.string) ++ laid_from layout spot [])
    → text ≡ laid_out (layout_view layout) (pieces (chars source) all)
end_laid source part text layout all marks byte n o new l empty u e wrote end =
    let w = wrote l.spot (λ m. []) l.next.is_at (λ m. refl) (λ m. sym (and_false (m == 0))) (λ h m. refl)
    (λ h k. absurd (true≢false (sym h))) in
    let laid = subst (λ (k : Layout). chars (string_bytes o.text.string) ++ laid_from (layout_view k) l.spot
    (comments (λ m. []) outside 0 (chars part))
    ≡ chars (string_bytes new.text.string) ++ laid_from (layout_view k) w.0 []) l.written w.1.laid in
    end (layout_view layout) w.0 w.1.is_before
    ∙ sym (l.laid ∙ ap (λ ps. chars (string_bytes o.text.string) ++ laid_from (layout_view layout) l.spot ps)
    (comments_left source part layout all marks byte o l empty u e) ∙ laid)
