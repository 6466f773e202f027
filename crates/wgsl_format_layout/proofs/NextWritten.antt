-- A token and the comments before it, which are written at a spot.
use Rattle.std.proofs.Common.{◌≡◌, ℕ, suc, ◌<◌, ◌≤◌, ◌==◌, ◌&&◌, Bool, true, false, cond, nat_le, refl, sym, ap, ap₂, subst, ◌∙◌, List, [], ◌∷◌, ◌++◌, append_assoc, drop, drop-cons, length, get_or, map, chars, arith}
use Rattle.std.specs.Prelude.{string_bytes, slice_range}
use Rattle.std.specs.List.{list_all}
use Rattle.std.specs.Str.{IsUtf8, IsCharBoundary}
use Rattle.std.proofs.lemmas.Bool.{false≢true}
use Rattle.grammar.specs.Tokens.{Token}
use Rattle.wgsl_model.specs.Tokens.Trivia.{outside}
use Rattle.wgsl_model_tidy.specs.Pieces.{Piece, comments, between, pieces_from}
use Rattle.wgsl_model_tidy.specs.Roles.{Role, precedence}
use Rattle.wgsl_model_tidy.specs.Joints.{Joint, line, joint}
use Rattle.wgsl_model_tidy.specs.Layout.{Layout as Plain, column_after}
use Rattle.wgsl_model_tidy.specs.Open.{together, LayoutState, Enclosing, enclosing, operands_before, role_in, last_after, after_token}
use Rattle.wgsl_model_tidy.specs.Ahead.{Ahead, is_comment, operand_follows, next_role}
use Rattle.wgsl_model_tidy.specs.LaidOut.{Gap, Last, token, Spot, begins_line, is_followed, is_line, is_token, may_break, before_next, between as between_tokens, next_binds, gap_before_token, gap_text, depth_after, operands_with, style_with, state_with, laid_from}
use Rattle.wgsl_theory_tidy.proofs.Comments.{piece}
use Rattle.wgsl_theory_tidy.proofs.Laid.{token_written}
use Rattle.wgsl_lexer.specs.TextTokens.{tokens_left}
use Rattle.wgsl_format_layout.specs.View.{role_view}
use Rattle.wgsl_format_layout.specs.Gaps.{last_view}
use Rattle.wgsl_format_layout.specs.States.{state_view}
use Rattle.wgsl_format_layout.specs.Layouts.{layout_view}
use Rattle.wgsl_format_layout.specs.Lines.{is_printable, Adds}
use Rattle.wgsl_format_layout.specs.Left.{AreLeftFrom}
use Rattle.wgsl_format_layout.specs.Marks.{level_after, IsAhead, AreAhead, AreInOrder}
use Rattle.wgsl_format_layout.specs.Walks.{Follow}
use Rattle.wgsl_format_layout.specs.Windows.{ends_at, AreClosed}
use Rattle.wgsl_format_layout.specs.Reads.{IsRead, AreRead}
use Rattle.wgsl_format_layout.specs.Reading.{ahead_left, last_end}
use Rattle.wgsl_format_layout.specs.Alike.{kind, AreAlike}
use Rattle.wgsl_format_layout.specs.Outputs.{forgotten_in, layout_of, IsAt, IsBefore, HasComments, WritesComments, HasToken, WritesToken}
use Rattle.wgsl_format_layout.specs.Spots.{spot_of, is_known, state_past, AreClosedIfAny, IsNext, HasUpTo, WritesNext}
use Rattle.wgsl_format_layout.specs.declared.layout.Layout.{Layout}
use Rattle.wgsl_format_layout.specs.declared.text.Text.{Text}
use Rattle.wgsl_format_layout.specs.declared.marks.Mark.{Mark}
use Rattle.wgsl_format_layout.specs.declared.marks.MarkedToken.{MarkedToken}
use Rattle.wgsl_format_layout.specs.declared.marks.Marks.{Marks}
use Rattle.wgsl_format_layout.specs.declared.output.Output.{Output}
use Rattle.wgsl_format_layout.proofs.Forgotten.{brackets_forgotten, enclosing_forgotten}
use Rattle.wgsl_format_layout.proofs.Alike.{alike_after, last_alike}
use Rattle.wgsl_format_layout.proofs.ClosedLines.{between_closed}
use Rattle.wgsl_format_layout.proofs.Deeper.{both}
use Rattle.wgsl_format_layout.proofs.TokensCut.{IsFirst, first_left}
use Rattle.wgsl_format_layout.proofs.StatesPast.{past_is}
use Rattle.wgsl_format_layout.proofs.Past.{first_is}
use Rattle.wgsl_format_layout.proofs.TokenRead.{part_chars}

-- ---- what is between two tokens

-- it is the same where blocks are one, and so are brackets of a style
between_forgotten : (layout : Plain) (spot : Spot) (right : Role)
    → between_tokens layout (record spot { state = forgotten_in spot.state }) right ≡ between_tokens layout spot right
between_forgotten layout spot right =
    rw (enclosing_forgotten spot.state.opened, brackets_forgotten spot.state.opened) refl

-- and by the tokens that are read
between_at : (o : Output) (spot : Spot) (right : Role) (k : ℕ) (ts far : List Ahead) → IsAt o spot
    → spot.ahead ≡ ts ++ far → AreInOrder k ts → AreClosed ts far
    → between_tokens (layout_of o) (spot_of o ts) right ≡ between_tokens (layout_of o) spot right
between_at o spot right k ts far b a order closed =
    ap (λ (s : LayoutState). at s (last_view o.last) o.text.line.column) b.state
    ∙ ap (λ (l : Last). at (forgotten_in spot.state) l o.text.line.column) b.last
    ∙ ap (λ n. at (forgotten_in spot.state) spot.last n) b.column
    ∙ between_forgotten (layout_of o) (record spot { ahead = ts }) right
    ∙ sym (between_closed (layout_of o) spot right k ts far order closed)
    ∙ ap (λ (us : List Ahead). between_tokens (layout_of o) (record spot { ahead = us }) right) (sym a)
  where
    at : LayoutState → Last → ℕ → Joint
    at s l n = between_tokens (layout_of o) (record { state = s; last = l; column = n; ahead = ts }) right

-- after comments
joint_again : (one two : Output) (spot after : Spot) (ps qs : List Piece) (right : Role) (first second : Joint)
    → HasComments one spot ps right two after qs → between_tokens (layout_of one) spot right ≡ first
    → second ≡ cond (is_token (last_view two.last)) first
    (joint (enclosing two.state.opened) (role_view two.state.last) right)
    → between_tokens (layout_of two) after right ≡ second
joint_again one two spot after ps qs right first second h e s = go (is_token after.last) refl
  where
    opened : Enclosing
    opened = enclosing after.state.opened

    by : Bool → Joint
    by b = cond b first (joint (enclosing two.state.opened) (role_view two.state.last) right)

    last_is : (b : Bool) → is_token after.last ≡ b → second ≡ by b
    last_is b k = s ∙ ap by (ap is_token h.is_before.last ∙ k)

    go : (b : Bool) → is_token after.last ≡ b → between_tokens (layout_of two) after right ≡ second
    go true k = ap (λ (l : Layout). between_tokens (layout_view l) after right) h.layout
        ∙ ap (λ (x : Spot). between_tokens (layout_of one) x right) (h.none k) ∙ e ∙ sym (last_is true k)
    go false k =
        ap (λ (b : Bool). cond (b && (may_break opened && begins_line (layout_of two) after right)) line
        (joint opened after.state.last right)) k
        ∙ sym (ap₂ (λ (x : Enclosing) (r : Role). joint x r right)
        (ap (λ (s : LayoutState). enclosing s.opened) h.is_before.state ∙ enclosing_forgotten after.state.opened)
        (ap (λ (s : LayoutState). s.last) h.is_before.state))
        ∙ sym (last_is false k)

-- ---- the steps

-- operands that end before it have ended
gone_before : (old one : Output) (spot : Spot) (right : Role) (binds : ℕ) → IsAt old spot
    → state_view one.state ≡ record (state_view old.state) { operands = operands_before old.state.operands right binds }
    → one.last ≡ old.last → one.text ≡ old.text → next_binds spot.ahead ≡ binds → IsBefore one spot right
gone_before old one spot right binds b g l x e = record {
  state = g ∙ ap (λ (s : LayoutState). record s { operands = operands_before s.operands right binds }) b.state
      ∙ ap (λ n. forgotten_in (record spot.state { operands = operands_before spot.state.operands right n })) (sym e);
  last = ap last_view l ∙ b.last;
  column = ap (λ (x : Text). x.line.column) x ∙ b.column;
}

-- what follows the token, for its comments
first_does : (state : LayoutState) (class : ℕ) (right : Role) (text : List ℕ) (n : ℕ) (ps : List Piece)
    → is_comment class ≡ false → right ≡ role_in state class (operand_follows ps)
    → next_role state (piece class text n ∷ ps) ≡ right
first_does state class right text n ps plain does =
    ap (λ b. cond b (next_role state ps) (role_in state class (operand_follows ps))) plain ∙ sym does

follows_here : (class : ℕ) (text : List ℕ) (n : ℕ) (ps : List Piece) → is_comment class ≡ false
    → is_followed (piece class text n ∷ ps) ≡ (n == 0 && true)
follows_here class text n ps plain = rw plain refl

closed_next : (t : Ahead) (ts far : List Ahead) → AreClosed (t ∷ ts) far → AreClosedIfAny ts far
closed_next t [] far h = tt
closed_next t (u ∷ us) [] h = tt
closed_next t (u ∷ us) (r ∷ rs) h = (h.0, (both (nat_le h.0 t.level) (ends_at h.0 (u ∷ us)) h.1).1)

-- what is known of the steps by which a token and the comments before it are written
pub record Steps (source : List ℕ) (tokens : List MarkedToken) (place byte : ℕ) (old one two three new : Output)
    (m : MarkedToken) (first second : Joint) (k : ℕ) : Type 0 where
  pub asked : (n : ℕ) (t : Ahead) (ts : List Ahead) → Follow old.end place tokens n (t ∷ ts)
      → first ≡ between_tokens (layout_of old) (spot_of old (t ∷ ts)) t.role
  pub gone : state_view one.state
      ≡ record (state_view old.state) { operands = operands_before old.state.operands (role_view m.role) m.binds }
  pub last_one : one.last ≡ old.last
  pub text_one : one.text ≡ old.text
  pub wrote : WritesComments one (between (chars source) byte m.span.start) first (role_view m.role) true k two
  pub again : second ≡ cond (is_token (last_view two.last)) first
      (joint (enclosing two.state.opened) (role_view two.state.last) (role_view m.role))
  pub put : WritesToken two second (role_view m.role) k (between (chars source) m.span.start m.span.end) three
  pub text : new.text ≡ three.text
  pub last : last_view new.last ≡ token
  pub end : (ms : List MarkedToken) → drop place tokens ≡ m ∷ ms → new.end ≡ m.end
  pub state : (before : Mark) (n : ℕ) (t : Ahead) (ts : List Ahead) (ms : List MarkedToken)
      → drop place tokens ≡ m ∷ ms → Follow before place tokens n (t ∷ ts) → list_all is_known ts ≡ true
      → state_view new.state ≡ state_past (layout_of three) (state_view three.state) three.text.line.column
      t ts (role_view m.last)

-- a token is next, which is at a place, and others after it
pub record AtToken (source : List ℕ) (tokens : List MarkedToken) (place byte : ℕ) (o : Output) (spot : Spot)
    (marks : Marks) (after : LayoutState) (m : MarkedToken) (ms : List MarkedToken) (left : List Token) : Type 0 where
  pub tok : Token
  pub others : List Token
  pub t : Ahead
  pub ts : List Ahead
  pub state : LayoutState
  pub level : ℕ
  pub whole : left ≡ tok ∷ others
  pub is_at : IsAt o spot
  pub alike : AreAlike state spot.state
  pub ahead : spot.ahead ≡ t ∷ (ts ++ ahead_left marks after)
  pub follow : Follow o.end place tokens level (t ∷ ts)
  pub known : list_all is_known (t ∷ ts) ≡ true
  pub closed : AreClosed (t ∷ ts) (ahead_left marks after)
  pub places : AreLeftFrom source byte (tok ∷ others)
  pub read : IsRead source byte state tok others m
  pub more : AreRead source tok.end (after_token state 0 tok.class (role_view m.role) together) others ms
      marks.byte after (tokens_left marks.left)
  pub stops : last_end m.end ms ≡ marks.end

at_token : (source : List ℕ) (tokens : List MarkedToken) (place byte : ℕ) (o : Output) (spot : Spot)
    (marks : Marks) (after : LayoutState) (m : MarkedToken) (ms : List MarkedToken) (left : List Token)
    (state : LayoutState) (near : List Ahead) (level : ℕ) → IsAt o spot → AreAlike state spot.state
    → spot.ahead ≡ near ++ ahead_left marks after → Follow o.end place tokens level near
    → AreAhead o.end place (m ∷ ms) near → list_all is_known near ≡ true
    → AreClosedIfAny near (ahead_left marks after) → AreLeftFrom source byte left
    → AreRead source byte state left (m ∷ ms) marks.byte after (tokens_left marks.left)
    → last_end o.end (m ∷ ms) ≡ marks.end
    → AtToken source tokens place byte o spot marks after m ms left
at_token source tokens place byte o spot marks after m ms left state [] level b a s f are k c p r e = absurd are
at_token source tokens place byte o spot marks after m ms [] state (t ∷ ts) level b a s f are k c p r e = absurd r
at_token source tokens place byte o spot marks after m ms (tok ∷ others) state
    (t ∷ ts) level b a s f are k c p r e = record {
      tok = tok;
      others = others;
      t = t;
      ts = ts;
      state = state;
      level = level;
      whole = refl;
      is_at = b;
      alike = a;
      ahead = s;
      follow = f;
      known = k;
      closed = c;
      places = p;
      read = r.0;
      more = r.1;
      stops = e;
    }

pub next_token : (source : List ℕ) (tokens : List MarkedToken) (place byte : ℕ) (o : Output) (spot : Spot)
    (marks : Marks) (after : LayoutState) (m : MarkedToken) (ms : List MarkedToken)
    → (n : IsNext source tokens place byte o spot marks after) → drop place tokens ≡ m ∷ ms
    → AtToken source tokens place byte o spot marks after m ms n.left
next_token source tokens place byte o spot marks after m ms n e =
    at_token source tokens place byte o spot marks after m ms n.left n.state n.near n.level n.is_at n.alike n.ahead
    n.follow (subst (λ xs. AreAhead o.end place xs n.near) e n.follow.are) n.known n.closed n.places
    (subst (λ xs. AreRead source byte n.state n.left xs marks.byte after (tokens_left marks.left)) e n.read)
    (subst (λ xs. last_end o.end xs ≡ marks.end) e n.stops)

-- states that are alike stay so after a token
alike_next : (a s : LayoutState) (layout : Plain) (depth column class : ℕ) (right : Role) (ts : List Ahead)
    → AreAlike a s → AreAlike (after_token a 0 class right together) (state_with layout s depth column class right ts)
alike_next a s layout depth column class right ts h =
    let operands = operands_with layout s depth column right ts in
    alike_after a (record s { operands = operands })
    (record { last = h.last; structure = h.structure; kinds = h.kinds }) 0 depth class right together
    (style_with layout operands depth column right ts)

-- ---- the token and the comments before it are written

pub written_next : (source : List ℕ) (tokens : List MarkedToken) (place byte : ℕ) (old one two three new : Output)
    (m : MarkedToken) (first second : Joint) (k : ℕ) (spot : Spot) (marks : Marks) (after : LayoutState)
    (ms : List MarkedToken) (left : List Token) → IsUtf8 source
    → Steps source tokens place byte old one two three new m first second k → drop place tokens ≡ m ∷ ms
    → drop (suc place) tokens ≡ ms
    → AtToken source tokens place byte old spot marks after m ms left
    → HasUpTo source tokens byte old spot marks after left (suc place) m.span.end new
written_next source tokens place byte old one two three new m first second k spot marks after ms left u s e later a =
    record {
      next_spot = next;
      is_next = record {
        left = a.others;
        state = after_token a.state 0 class right together;
        near = a.ts;
        level = level_after a.level a.t.role;
        is_at = record { state = state_is; last = s.last; column = ap (λ (x : Text). x.line.column) s.text };
        alike = alike_next a.state here layout depth column class right mid.ahead alike_here;
        ahead = ap (drop 1) ahead_is;
        follow = record {
          are = subst (λ xs. AreAhead new.end (suc place) xs a.ts) (sym later)
              (subst (λ (x : Mark). AreAhead x (suc place) ms a.ts) (sym (s.end ms e)) are.1);
          order = a.follow.order.2;
        };
        known = (both (is_known a.t) (list_all is_known a.ts) a.known).1;
        closed = closed_next a.t a.ts (ahead_left marks after) a.closed;
        places = subst (λ n. AreLeftFrom source n a.others) (sym a.read.stop) cut.left;
        read = subst (λ n. AreRead source n (after_token a.state 0 class right together) a.others
            (drop (suc place) tokens) marks.byte after (tokens_left marks.left)) (sym a.read.stop)
            (subst (λ xs. AreRead source a.tok.end (after_token a.state 0 class right together) a.others xs
            marks.byte after (tokens_left marks.left)) (sym later) a.more);
        stops = subst (λ xs. last_end new.end xs ≡ marks.end) (sym later)
            (subst (λ (x : Mark). last_end x ms ≡ marks.end) (sym (s.end ms e)) a.stops);
      };
      layout = ap (λ (x : Text). x.line.layout) s.text ∙ three_layout;
      laid = ap (λ xs. chars (string_bytes old.text.string)
          ++ laid_from layout spot (pieces_from (chars source) byte xs)) a.whole
          ∙ laid;
    }
  where
    class : ℕ
    class = a.tok.class

    right : Role
    right = role_view m.role

    layout : Plain
    layout = layout_of old

    word : List ℕ
    word = between (chars source) a.tok.start a.tok.end

    ps : List Piece
    ps = pieces_from (chars source) a.tok.end a.others

    following : ℕ → List Piece
    following n = piece class word n ∷ ps

    cut : IsFirst source byte a.tok a.others
    cut = first_left source byte a.tok a.others u a.places

    are : IsAhead old.end place m a.t a.ts × AreAhead m.end (suc place) ms a.ts
    are = subst (λ xs. AreAhead old.end place xs (a.t ∷ a.ts)) e a.follow.are

    -- comments
    asked : between_tokens layout spot right ≡ first
    asked = sym (between_at old spot right a.level (a.t ∷ a.ts) (ahead_left marks after) a.is_at a.ahead a.follow.order
        a.closed) ∙ ap (between_tokens layout (spot_of old (a.t ∷ a.ts))) are.0.role
        ∙ sym (s.asked a.level a.t a.ts a.follow)

    layout_one : layout_of one ≡ layout
    layout_one = ap (λ (x : Text). layout_view x.line.layout) s.text_one

    before : IsBefore one spot right
    before = gone_before old one spot right m.binds a.is_at s.gone s.last_one s.text_one
        (ap next_binds a.ahead ∙ sym are.0.binds)

    does : (x : LayoutState) → x.last ≡ spot.state.last → right ≡ role_in x class (operand_follows ps)
    does x l = a.read.role
        ∙ ap (λ (r : Role). role_in (record x { last = r }) class (operand_follows ps)) (a.alike.last ∙ sym l)

    commented : (x : Spot) × HasComments one spot (comments following outside 0
        (between (chars source) byte m.span.start)) right two x (following k)
    commented = s.wrote spot following before
        (λ n. first_does spot.state class right word n ps cut.plain (does spot.state refl))
        (λ n. follows_here class word n ps cut.plain)
        (λ h. absurd (false≢true (sym h)))
        (λ _ h. ap (λ (x : Plain). is_line (between_tokens x spot right)) layout_one ∙ ap is_line asked)

    mid : Spot
    mid = commented.0

    has : HasComments one spot (comments following outside 0 (between (chars source) byte m.span.start))
        right two mid (following k)
    has = commented.1

    layout_two : layout_of two ≡ layout
    layout_two = ap layout_view has.layout ∙ layout_one

    here : LayoutState
    here = before_next mid right

    ahead_is : mid.ahead ≡ a.t ∷ (a.ts ++ ahead_left marks after)
    ahead_is = has.ahead ∙ a.ahead

    -- the token
    gap : Gap
    gap = gap_before_token (layout_of two) mid right k

    put : HasToken two gap (between (chars source) m.span.start m.span.end) three
    put = s.put mid has.is_before (joint_again one two spot mid _ _ right first second has
        (ap (λ (x : Plain). between_tokens x spot right) layout_one ∙ asked) s.again)

    text_is : between (chars source) m.span.start m.span.end ≡ word
    text_is = ap₂ (between (chars source)) a.read.start a.read.stop

    adds : Adds two.text (gap_text (layout_of two) gap ++ word) three.text
    adds = subst (λ w. Adds two.text (gap_text (layout_of two) gap ++ w) three.text) text_is put.adds

    three_layout : three.text.line.layout ≡ old.text.line.layout
    three_layout = put.adds.line.layout ∙ has.layout ∙ ap (λ (x : Text). x.line.layout) s.text_one

    depth : ℕ
    depth = depth_after gap mid.state.line

    column : ℕ
    column = three.text.line.column

    alike_here : AreAlike a.state here
    alike_here = record {
      last = a.alike.last ∙ ap (λ (x : LayoutState). x.last) (sym has.state);
      structure = a.alike.structure ∙ ap (λ (x : LayoutState). x.structure) (sym has.state);
      kinds = a.alike.kinds ∙ ap (λ (x : LayoutState). map kind x.opened) (sym has.state);
    }

    last_is : role_view m.last ≡ last_after here right
    last_is = a.read.last ∙ last_alike a.state here alike_here right

    state_is : state_view new.state ≡ forgotten_in (state_with layout here depth column class right mid.ahead)
    state_is = s.state old.end a.level a.t a.ts ms e a.follow (both (is_known a.t) (list_all is_known a.ts) a.known).1
        ∙ ap₂ (λ (x : Plain) (y : LayoutState). state_past x y column a.t a.ts (role_view m.last))
        (ap layout_view three_layout)
        (put.state ∙ ap (λ (y : LayoutState). record y { line = depth_after gap y.line }) has.is_before.state)
        ∙ past_is layout here depth column class a.level a.t a.ts (ahead_left marks after) (role_view m.last)
        a.follow.order a.closed (last_is ∙ ap (last_after here) are.0.role)
        (sym are.0.binds ∙ a.read.binds ∙ ap (λ (r : Role). precedence r class) are.0.role)
        ∙ ap₂ (λ (r : Role) (us : List Ahead). forgotten_in (state_with layout here depth column class r us))
        (sym are.0.role) (sym ahead_is)

    next : Spot
    next = record {
      state = state_with layout here depth column class right mid.ahead;
      last = token;
      column = column;
      ahead = drop 1 mid.ahead;
    }

    written : List ℕ
    written = chars (string_bytes two.text.string)

    laid_token : written ++ laid_from layout mid (following k)
        ≡ ((written ++ gap_text layout gap) ++ word) ++ laid_from layout next ps
    laid_token = token_written layout class cut.plain mid right written word
        (written ++ gap_text layout gap)
        ((written ++ gap_text layout gap) ++ word) k depth column gap
        (state_with layout here depth column class right mid.ahead) (drop 1 mid.ahead) ps
        (does mid.state (ap (λ (x : LayoutState). x.last) has.state))
        (ap (λ (x : Plain). gap_before_token x mid right k) layout_two) refl refl refl
        (adds.line.column ∙ ap₂ (λ (x : Plain) n. column_after x n (gap_text x gap ++ word))
        layout_two has.is_before.column)
        refl refl

    laid : chars (string_bytes old.text.string)
        ++ laid_from layout spot (pieces_from (chars source) byte (a.tok ∷ a.others))
        ≡ chars (string_bytes new.text.string) ++ laid_from layout next (pieces_from (chars source) m.span.end a.others)
    laid =
        ap₂ (λ (x : Text) n. chars (string_bytes x.string) ++ laid_from layout spot (comments following outside 0
        (between (chars source) byte n))) (sym s.text_one) (sym a.read.start)
        ∙ ap (λ (x : Plain). chars (string_bytes one.text.string) ++ laid_from x spot (comments following outside 0
        (between (chars source) byte m.span.start))) (sym layout_one)
        ∙ has.laid
        ∙ ap (λ (x : Plain). written ++ laid_from x mid (following k)) layout_one
        ∙ laid_token
        ∙ ap (λ cs. cs ++ laid_from layout next ps) (append_assoc written (gap_text layout gap) word
        ∙ ap (λ (x : Plain). written ++ (gap_text x gap ++ word)) (sym layout_two) ∙ sym adds.written
        ∙ ap (λ (x : Text). chars (string_bytes x.string)) (sym s.text))
        ∙ ap (λ n. chars (string_bytes new.text.string)
        ++ laid_from layout next (pieces_from (chars source) n a.others))
        (sym a.read.stop)

-- ---- the token at a place

-- what is known of it before it is written
pub record IsPlace (source : List ℕ) (byte : ℕ) (m : MarkedToken) : Type 0 where
  pub forward : byte ≤ m.span.start
  pub inside : m.span.start ≤ m.span.end
  pub start : IsCharBoundary source m.span.start
  pub stop : IsCharBoundary source m.span.end
  pub none : m.before.has_comment ≡ false → (following : ℕ → List Piece)
      → comments following outside 0 (between (chars source) byte m.span.start) ≡ following m.before.line_ends
  pub printable : m.is_printable ≡ true → list_all is_printable (slice_range source m.span.start m.span.end) ≡ true

pub place_at : (d : MarkedToken) (source : List ℕ) (tokens : List MarkedToken) (place byte : ℕ)
    (o : Output) (spot : Spot)
    (marks : Marks) (after : LayoutState) → IsUtf8 source → place < length tokens
    → IsNext source tokens place byte o spot marks after → IsPlace source byte (get_or tokens place d)
place_at d source tokens place byte o spot marks after u h n =
    let m = get_or tokens place d in
    let a = next_token source tokens place byte o spot marks after m (drop (suc place) tokens) n
    (drop-cons tokens place d h) in
    let first = first_left source byte a.tok a.others u a.places in
    record {
      forward = subst (λ k. byte ≤ k) (sym a.read.start) first.following;
      inside = omega (arith, first.forward, a.read.start, a.read.stop);
      start = subst (IsCharBoundary source) (sym a.read.start) first.start_boundary;
      stop = subst (IsCharBoundary source) (sym a.read.stop) first.stop_boundary;
      none = λ e following. ap (λ k. comments following outside 0 (between (chars source) byte k)) a.read.start
          ∙ a.read.line_ends e following;
      printable = λ e. ap₂ (λ i j. list_all is_printable (slice_range source i j)) a.read.start a.read.stop
          ∙ a.read.printable e;
    }

-- it is written by these steps
pub written_at : (d : MarkedToken) (source : List ℕ) (tokens : List MarkedToken) (place byte : ℕ)
    (old one two three new : Output) (first second : Joint) (k : ℕ) (text : List ℕ) → IsUtf8 source
    → place < length tokens
    → state_view one.state ≡ record (state_view old.state) {
      operands = operands_before old.state.operands (role_view (get_or tokens place d).role)
          (get_or tokens place d).binds;
    }
    → one.last ≡ old.last → one.text ≡ old.text
    → ((n : ℕ) (t : Ahead) (ts : List Ahead) → Follow old.end place tokens n (t ∷ ts)
    → first ≡ between_tokens (layout_of old) (spot_of old (t ∷ ts)) t.role)
    → WritesComments one (between (chars source) byte (get_or tokens place d).span.start) first
    (role_view (get_or tokens place d).role) true k two
    → second ≡ cond (is_token (last_view two.last)) first
    (joint (enclosing two.state.opened) (role_view two.state.last) (role_view (get_or tokens place d).role))
    → text ≡ slice_range source (get_or tokens place d).span.start (get_or tokens place d).span.end
    → WritesToken two second (role_view (get_or tokens place d).role) k (chars text) three
    → new.text ≡ three.text → last_view new.last ≡ token
    → ((m : MarkedToken) (ms : List MarkedToken) → drop place tokens ≡ m ∷ ms → new.end ≡ m.end)
    → ((before : Mark) (n : ℕ) (t : Ahead) (ts : List Ahead) (m : MarkedToken) (ms : List MarkedToken)
    → drop place tokens ≡ m ∷ ms → Follow before place tokens n (t ∷ ts) → list_all is_known ts ≡ true
    → state_view new.state ≡ state_past (layout_of three) (state_view three.state) three.text.line.column
    t ts (role_view m.last))
    → WritesNext source tokens place byte old new
written_at d source tokens place byte old one two three new first second k text u h gone last_one text_one asked
    wrote again text_is put same last end state spot marks after n m ms e =
    let m₀ = get_or tokens place d in
    let rest = drop (suc place) tokens in
    let here : drop place tokens ≡ m₀ ∷ rest = drop-cons tokens place d h in
    let s : Steps source tokens place byte old one two three new m₀ first second k = record {
      asked = asked;
      gone = gone;
      last_one = last_one;
      text_one = text_one;
      wrote = wrote;
      again = again;
      put = subst (λ w. WritesToken two second (role_view m₀.role) k w three)
          (part_chars source text m₀.span.start m₀.span.end u text_is) put;
      text = same;
      last = last;
      end = λ ms e. end m₀ ms e;
      state = λ before n t ts ms e f k. state before n t ts m₀ ms e f k;
    } in
    subst (λ (x : MarkedToken). HasUpTo source tokens byte old spot marks after n.left (suc place) x.span.end new)
    (first_is d tokens place m ms h e)
    (written_next source tokens place byte old one two three new m₀ first second k spot marks after rest n.left u s
    here refl (next_token source tokens place byte old spot marks after m₀ rest n here))
