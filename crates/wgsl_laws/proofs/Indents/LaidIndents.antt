-- In a laid-out text each token that begins a line is indented as what is open before it asks.
use Rattle.std.proofs.Common.{◌≡◌, ℕ, ◌+◌, ◌-◌, ◌&&◌, ◌==◌, Bool, true, false, not, refl, sym, ap, ap₂, subst, ◌∙◌, List, [], ◌∷◌, ◌++◌, map, take, drop, append_assoc, append-nil, arith}
use Rattle.std.specs.Str.{chars, encode_utf8_all}
use Rattle.std.proofs.lemmas.Str.{encodes-append}
use Rattle.std.proofs.Math.Seq.{drop-append_seam, take-append_seam}
use Rattle.std.proofs.lemmas.Bool.{true≢false}
use Rattle.grammar.specs.Tokens.{Token}
use Rattle.grammar.specs.Grammar.{IsSentence}
use Rattle.grammar.specs.Endings.{Ending.finished}
use Rattle.wgsl_model.specs.Tokens.ClassTable.{LineComment, SymAttr}
use Rattle.wgsl_model.specs.Tokens.Kind.{Kind, placed}
use Rattle.wgsl_model.specs.Tokens.TokenList.{IsTokenList, width, place}
use Rattle.wgsl_model.specs.Tokens.Trivia.{outside, after_trivia}
use Rattle.wgsl_model.specs.Grammar.Symbols.{Symbol.unit}
use Rattle.wgsl_model.specs.Grammar.Written.{written}
use Rattle.wgsl_model_tidy.specs.Kept.{unplaced}
use Rattle.wgsl_model_tidy.specs.Brackets.{Line, blank, line_of}
use Rattle.wgsl_model_tidy.specs.Layout.{Layout, column_after}
use Rattle.wgsl_model_tidy.specs.Pieces.{Piece, between, comments, pieces}
use Rattle.wgsl_model_tidy.specs.Roles.{at as at_sign, beginning, is}
use Rattle.wgsl_model_tidy.specs.Open.{between_items, depth_of, comment_depth, role_in}
use Rattle.wgsl_model_tidy.specs.Ahead.{is_comment, operand_follows, next_role}
use Rattle.wgsl_model_tidy.specs.LaidOut.{Gap, Spot, owned, line_end, gap_before_comment, gap_before_token, gap_text, indentation, depth_after, piece_text, leads, comment_last, first_spot, laid_from, laid_out, between as between_tokens, counted, before_next, style_with, operands_with}
use Rattle.wgsl_theory_grammar.proofs.Tokens.Lists.{tokens_unique}
use Rattle.wgsl_theory_grammar.proofs.Tokens.Widths.{width-append}
use Rattle.wgsl_theory_templates.proofs.Lexed.Runs.{lexed}
use Rattle.wgsl_theory_tidy.proofs.Comments.{piece, AtLineEnd}
use Rattle.wgsl_theory_tidy.proofs.Laid.{after_comment_at, after_token_at, token_laid}
use Rattle.wgsl_theory_tidy.proofs.Kept.Encoded.{decoded}
use Rattle.wgsl_theory_tidy.proofs.Kept.Readings.{IsToken, token_piece, Reads, reads_end, reads_token}
use Rattle.wgsl_theory_tidy.proofs.Kept.ClosedComments.{Closed, AllClosed}
use Rattle.wgsl_theory_tidy.proofs.Kept.Gaps.{gap_passed, closed_passed, closed_is_comment}
use Rattle.wgsl_theory_tidy.proofs.Kept.LaidText.{has_characters, after_parts, laid_along}
use Rattle.wgsl_theory_tidy.proofs.Kept.LaidTokens.{no_comment, token_here, same_token}
use Rattle.wgsl_theory_tidy.proofs.Kept.LaidTrails.{laid_trail}
use Rattle.wgsl_theory_tidy.proofs.Kept.Parted.{token_again}
use Rattle.wgsl_theory_tidy.proofs.Kept.Read.{read}
use Rattle.wgsl_theory_tidy.proofs.Kept.SameShape.{same_shape}
use Rattle.wgsl_theory_tidy.proofs.Kept.ShownTexts.{closed_text}
use Rattle.wgsl_theory_tidy.proofs.Kept.Trails.{trail}
use Rattle.wgsl_theory_tidy.proofs.Kept.TokenTexts.{TokenCut}
use Rattle.wgsl_theory_tidy.proofs.Kept.Walk.{Walk, walk_end, walk_token, walked}
use Rattle.wgsl_laws.specs.Indents.{line_to, indent, Opened, next_opened, IsIndented, closing, inside, AreIndented, IndentsLines, closes, ends_item, ends_operands}
use Rattle.wgsl_laws.proofs.Indents.Through.{word_through, comment_through, entered, InLine, shown, hidden, place_of_last}
use Rattle.wgsl_laws.proofs.Indents.Depths.{Agree, agree_none, ItemBegins, OperandsBegin, indented, agree_after}
use Rattle.wgsl_laws.proofs.Indents.Items.{last_at, item_after, before_go_on, operands_next}
use Rattle.wgsl_laws.proofs.Indents.AttributeNames.{AreNames, module_names}
use Rattle.wgsl_laws.proofs.Indents.Gaps.{Here, over, Stands, at_start, within, Before, begins, first, continues, after_entered, before_at, gap_over, token_gapped, comment_gapped, token_at_start, comment_at_start}

-- ---- places

-- the characters from one place up to another
between_at : (source before middle rest : List ℕ) (from to : ℕ) → source ≡ before ++ (middle ++ rest)
    → from ≡ width before → to ≡ width before + width middle → between source from to ≡ middle
between_at source before middle rest from to e f t =
    let bytes : encode_utf8_all source ≡ encode_utf8_all before ++ (encode_utf8_all middle ++ encode_utf8_all rest) =
    ap encode_utf8_all e ∙ encodes-append before (middle ++ rest)
    ∙ ap (λ xs. encode_utf8_all before ++ xs) (encodes-append middle rest) in
    let count : to - from ≡ width middle = omega (arith, f, t) in
    let left : drop from (encode_utf8_all source) ≡ encode_utf8_all middle ++ encode_utf8_all rest =
    ap₂ drop f bytes ∙ drop-append_seam (encode_utf8_all before) _ in
    ap chars (ap₂ take count left ∙ take-append_seam (encode_utf8_all middle) (encode_utf8_all rest))
    ∙ decoded middle

-- the line up to a rest of a text
line_here : (text front rest : List ℕ) (l : Line) → text ≡ front ++ rest → line_of front rest ≡ l
    → line_to text (place (width text) rest) ≡ l
line_here text front rest l e h =
    let all : width text ≡ width front + width rest = ap width e ∙ width-append front rest in
    let at : place (width text) rest ≡ width front = omega (arith, all) in
    let none : 0 ≡ width [] = omega arith in
    let ends : place (width text) rest ≡ width [] + width front = omega (arith, at) in
    ap₂ line_of (between_at text [] front rest 0 (place (width text) rest) e none ends)
    (between_at text front rest [] (place (width text) rest) (width text)
    (e ∙ ap (λ xs. front ++ xs) (sym (append-nil rest))) at all) ∙ h

-- ---- a spot

-- a text is formatted up to a spot, where so much is open, after an item or not, and after `@` or
-- not,
-- and these pieces are left
record At (layout : Layout) (text : List ℕ) (spot : Spot) (opened : Opened)
    (item operands sign : Bool) (ps : List Piece)
    : Type 0 where
  front : List ℕ
  line : Line
  here : Here text front (laid_from layout spot ps) (place_of_last spot.last) line
  stands : Stands layout spot opened line
  agree : Agree layout spot.state.opened opened
  item_begins : ItemBegins item opened spot.state
  operands_begin : OperandsBegin operands spot.state
  after_sign : is spot.state.last at_sign ≡ true → sign ≡ true

-- ---- a comment

abbrev gap_there : Layout → Spot → ℕ → ℕ → List Piece → Gap
gap_there layout spot class n ps = gap_before_comment spot (next_role spot.state ps) class
    (owned layout spot (next_role spot.state ps) ps) n

abbrev text_there : Layout → Spot → ℕ → List ℕ → ℕ → List Piece → List ℕ
text_there layout spot class text n ps = piece_text layout spot (gap_there layout spot class n ps) (piece class text n)

abbrev after_comment : Layout → Spot → ℕ → List ℕ → ℕ → List Piece → Spot
after_comment layout spot class text n ps =
    let gap = gap_there layout spot class n ps in
    after_comment_at spot (depth_after gap spot.state.line)
    (comment_last class (leads gap spot.last spot.state.last))
    (column_after layout spot.column (gap_text layout gap ++ text_there layout spot class text n ps))

comment_laid : (layout : Layout) (spot : Spot) (class : ℕ) (text : List ℕ) (n : ℕ) (ps : List Piece)
    → is_comment class ≡ true
    → laid_from layout spot (piece class text n ∷ ps) ≡ gap_text layout (gap_there layout spot class n ps)
    ++ (text_there layout spot class text n ps ++ laid_from layout (after_comment layout spot class text n ps) ps)
comment_laid layout spot class text n ps h = rw h refl

comment_step : (layout : Layout) (text : List ℕ) (spot : Spot) (opened : Opened) (item operands sign : Bool)
    (class : ℕ) (w : List ℕ) (n : ℕ) (ps : List Piece) → Closed class w
    → At layout text spot opened item operands sign (piece class w n ∷ ps)
    → At layout text (after_comment layout spot class w n ps) opened item operands sign ps
comment_step layout text spot opened item operands sign class w n ps c at =
    let right = next_role spot.state ps in
    let own = owned layout spot right ps in
    let gap = gap_there layout spot class n ps in
    let depth = depth_after gap spot.state.line in
    let written = text_there layout spot class w n ps in
    let after = after_comment layout spot class w n ps in
    let left = laid_from layout after ps in
    let e = comment_laid layout spot class w n ps (closed_is_comment class w c) in
    let here : Here text at.front (gap_text layout gap ++ (written ++ left)) (place_of_last spot.last) at.line =
    subst (λ xs. Here text at.front xs (place_of_last spot.last) at.line) e at.here in
    let break = line_end (between_items (before_next spot right) right) spot.last spot.state.last
    beginning (counted spot n)
    (comment_depth (before_next spot right) right) in
    let g = gap_over layout spot opened at.line at.stands _ (comment_depth (before_next spot right) right) gap
    (comment_gapped class spot.last spot.state.last own (counted spot n) break)
    (comment_at_start class spot.last spot.state.last own (counted spot n) break) (written ++ left) in
    let t = comment_through layout depth class written (closed_text layout spot gap class w n c)
    (leads gap spot.last spot.state.last) g.0 left
    (after_entered layout (comment_depth (before_next spot right) right) depth opened g.0 g.1) in
    record {
      front = (at.front ++ gap_text layout gap) ++ written;
      line = t.0;
      here = over text (at.front ++ gap_text layout gap) written left outside
          (place_of_last after.last) g.0 t.0
          (over text at.front (gap_text layout gap) (written ++ left) (place_of_last spot.last) outside at.line g.0
          here g.2) t.2;
      stands = within t.0 t.1;
      agree = at.agree;
      item_begins = at.item_begins;
      operands_begin = at.operands_begin;
      after_sign = at.after_sign;
    }

-- ---- comments before a token

-- the spot before a token, with what it begins with
record BeforeToken (layout : Layout) (text : List ℕ) (opened : Opened) (item operands sign : Bool) (from : List ℕ)
    (ps : List Piece) : Type 0 where
  spot : Spot
  at : At layout text spot opened item operands sign ps
  passed : after_trivia outside (laid_from layout spot ps) ≡ from

trail_over : (layout : Layout) (text : List ℕ) (opened : Opened) (item operands sign : Bool) (from : List ℕ)
    (k : Kind) (w : List ℕ) (n : ℕ)
    (ps cs : List Piece) → AllClosed cs → is_comment k.class ≡ false
    → (spot : Spot) → At layout text spot opened item operands sign (cs ++ (token_piece k w n ∷ ps))
    → after_trivia outside (laid_from layout spot (cs ++ (token_piece k w n ∷ ps))) ≡ from
    → BeforeToken layout text opened item operands sign from (token_piece k w n ∷ ps)
trail_over layout text opened item operands sign from k w n ps [] h i spot at p =
    record { spot = spot; at = at; passed = p }
trail_over layout text opened item operands sign from k w n ps (c ∷ cs) h i spot at p =
    let rest = cs ++ (token_piece k w n ∷ ps) in
    let gap = gap_there layout spot c.class c.line_ends rest in
    let shown = text_there layout spot c.class c.text c.line_ends rest in
    let after = after_comment layout spot c.class c.text c.line_ends rest in
    let left = laid_from layout after rest in
    let t = laid_trail layout after cs k w n ps h.1 i in
    let ends : c.class ≡ LineComment → AtLineEnd left =
    λ e. subst AtLineEnd (sym t.whole) (t.at_line_end
    (ap (λ d. comment_last d (leads gap spot.last spot.state.last)) e) (w ++ laid_from layout t.following ps)) in
    let passed : after_trivia outside (laid_from layout spot (c ∷ rest)) ≡ after_trivia outside left =
    ap (after_trivia outside) (comment_laid layout spot c.class c.text c.line_ends rest
    (closed_is_comment c.class c.text h.0))
    ∙ gap_passed layout gap (shown ++ left)
    ∙ closed_passed c.class shown (closed_text layout spot gap c.class c.text c.line_ends h.0) left ends in
    trail_over layout text opened item operands sign from k w n ps cs h.1 i after
    (comment_step layout text spot opened item operands sign c.class c.text c.line_ends rest h.0 at) (sym passed ∙ p)

-- ---- a token

-- the spot after a token
abbrev after_token : Layout → Spot → ℕ → List ℕ → ℕ → List Piece → Spot
after_token layout spot class w n ps =
    let right = role_in spot.state class (operand_follows ps) in
    let gap = gap_before_token layout spot right n in
    let depth = depth_after gap spot.state.line in
    let column = column_after layout spot.column (gap_text layout gap ++ w) in
    after_token_at layout spot depth class right column

token_laid_here : (layout : Layout) (spot : Spot) (class : ℕ) (w : List ℕ) (n : ℕ) (ps : List Piece)
    → is_comment class ≡ false
    → laid_from layout spot (piece class w n ∷ ps)
    ≡ gap_text layout (gap_before_token layout spot (role_in spot.state class (operand_follows ps)) n)
    ++ (w ++ laid_from layout (after_token layout spot class w n ps) ps)
token_laid_here layout spot class w n ps h =
    let right = role_in spot.state class (operand_follows ps) in
    token_laid layout class h spot right [] w n ps refl ∙ append_assoc (gap_text layout
    (gap_before_token layout spot right n)) w (laid_from layout (after_token layout spot class w n ps) ps)

-- the line before a token, if its blank space is all that is in it, is indented as it is to be
begins_so : (layout : Layout) (spot : Spot) (opened : Opened) (item operands : Bool) (class : ℕ)
    (operand : Bool) (depth : ℕ) (m : Line)
    → Agree layout spot.state.opened opened → ItemBegins item opened spot.state
    → OperandsBegin operands spot.state
    → Before layout (depth_of (before_next spot (role_in spot.state class operand))
    (role_in spot.state class operand)) depth
    opened m
    → (space : List ℕ) → m ≡ blank space → IsIndented layout opened item operands class space
begins_so layout spot opened item operands class operand depth _ a i o (begins e) space f =
    let same : indentation layout depth ≡ space = cc in
    let right = role_in spot.state class operand in
    subst (IsIndented layout opened item operands class) (ap (indentation layout) (sym e) ∙ same)
    (indented layout (before_next spot right) class opened a item i operands
    (λ h. o (before_go_on spot.state.operands right _ h)) operand)
begins_so layout spot opened item operands class operand depth _ a i b (first e o) space f =
    let none : [] ≡ space = cc in
    subst (IsIndented layout opened item operands class) none
    (subst (λ xs. IsIndented layout xs item operands class []) (sym o)
    (go (closes class) refl))
  where
    go : (b : Bool) → closes class ≡ b → IsIndented layout [] item operands class []
    go true h = closing h refl
    go false h = inside h refl
begins_so layout spot opened item operands class operand depth m a i b (continues _ j) space f = absurd (no_space m j f)
  where
    no_space : (x : Line) → InLine layout depth x → x ≡ blank space → ⊥
    no_space _ (shown) g = absurd cc
    no_space _ (hidden) g = absurd cc

-- the tokens from a place on, the first of them before a rest and the others after another
abbrev Placed : ℕ → Kind → List ℕ → List ℕ → List Token → List Token
Placed total k from rest us = placed k (place total from) (place total rest) ∷ us

no_sign : (sign ends before : Bool) → (sign && ends) ≡ false → (before ≡ true → sign ≡ true) → ends ≡ true
    → before ≡ false
no_sign sign ends false n h e = refl
no_sign true true true n h e = absurd (true≢false n)
no_sign true false true n h e = absurd (true≢false (sym e))
no_sign false ends true n h e = absurd (true≢false (sym (h refl)))

token_step : (layout : Layout) (text : List ℕ) (spot : Spot) (opened : Opened) (item operands sign : Bool)
    (k : Kind) (w : List ℕ) (n : ℕ) (ps : List Piece) → is_comment k.class ≡ false
    → IsToken k w (laid_from layout (after_token layout spot k.class w n ps) ps)
    → At layout text spot opened item operands sign (token_piece k w n ∷ ps)
    → (sign && ends_item k.class) ≡ false
    → (from rest : List ℕ) → from ≡ w ++ laid_from layout (after_token layout spot k.class w n ps) ps
    → (us : List Token)
    → ((xs : Opened) → At layout text (after_token layout spot k.class w n ps) xs (ends_item k.class)
    (not (ends_operands k.class)) (k.class == SymAttr) ps
    → AreIndented layout text xs (ends_item k.class) (not (ends_operands k.class)) us)
    → AreIndented layout text opened item operands (Placed (width text) k from rest us)
token_step layout text spot opened item operands sign k w n ps h i at names from rest f us next =
    let right = role_in spot.state k.class (operand_follows ps) in
    let gap = gap_before_token layout spot right n in
    let depth = depth_after gap spot.state.line in
    let column = column_after layout spot.column (gap_text layout gap ++ w) in
    let going = operands_with layout (before_next spot right) depth column right spot.ahead in
    let style = style_with layout going depth column right spot.ahead in
    let after = after_token layout spot k.class w n ps in
    let left = laid_from layout after ps in
    let break = line_end (between_items (before_next spot right) right) spot.last spot.state.last right (counted spot n)
    (depth_of (before_next spot right) right) in
    let front = at.front ++ gap_text layout gap in
    let here : Here text at.front (gap_text layout gap ++ (w ++ left)) (place_of_last spot.last) at.line =
    subst (λ xs. Here text at.front xs (place_of_last spot.last) at.line) (token_laid_here layout spot k.class w n ps h)
    at.here in
    let g = gap_over layout spot opened at.line at.stands _ (depth_of (before_next spot right) right) gap
    (token_gapped (between_tokens layout spot right) spot.last spot.state.last right (counted spot n) break)
    (token_at_start (between_tokens layout spot right) spot.last spot.state.last right
    (counted spot n) break) (w ++ left) in
    let there : Here text front (w ++ left) outside g.0 = over text at.front (gap_text layout gap) (w ++ left)
    (place_of_last spot.last) outside at.line g.0 here g.2 in
    let seen : line_to text (place (width text) from) ≡ g.0 = ap (λ xs. line_to text (place (width text) xs)) f
    ∙ line_here text front (w ++ left) g.0 there.0 there.2 in (
      λ space e. begins_so layout spot opened item operands k.class
          (operand_follows ps) depth g.0 at.agree at.item_begins
          at.operands_begin g.1
          space (sym seen ∙ e),
      subst (λ l. AreIndented layout text (next_opened layout opened (indent l) k.class) (ends_item k.class)
          (not (ends_operands k.class)) us)
          (sym seen)
          (next (next_opened layout opened (indent g.0) k.class) (record {
            front = front ++ w;
            line = entered g.0;
            here = over text front w left outside outside g.0 (entered g.0) there
                (word_through k w left g.0 i);
            stands = within (entered g.0)
                (after_entered layout (depth_of (before_next spot right) right) depth opened g.0 g.1);
            agree = agree_after layout spot.state k.class opened at.agree
                (operand_follows ps) depth style (indent g.0)
                (before_at layout (depth_of (before_next spot right) right) depth opened g.0 g.1);
            item_begins = item_after layout spot.state opened at.agree k.class
                (operand_follows ps) depth style
                (indent g.0)
                (λ e. no_sign sign (ends_item k.class) (is spot.state.last at_sign) names at.after_sign e);
            operands_begin = operands_next layout spot k.class (operand_follows ps) depth column;
            after_sign = last_at spot.state k.class (operand_follows ps);
          })),
    )

-- ---- all tokens

-- the rest after the first token, where it is known
rest_known : (j k : Kind) (from more w left : List ℕ) (out : List ℕ) → TokenCut out j from more → j ≡ k
    → IsToken k w left → from ≡ w ++ left → more ≡ left
rest_known j k from more w left out cut e i f =
    (same_token k cut.word more w left (subst (λ (m : Kind). IsToken m cut.word more) e cut.is_token) i
    (sym cut.begins ∙ f)).1

-- where a token begins that is formatted after a gap
token_begins : (layout : Layout) (gap : Gap) (k : Kind) (w left from all : List ℕ)
    → all ≡ gap_text layout gap ++ (w ++ left) → after_trivia outside all ≡ from → IsToken k w left → from ≡ w ++ left
token_begins layout gap k w left from all e p i = sym p ∙ ap (after_trivia outside) e
    ∙ gap_passed layout gap (w ++ left) ∙ token_here k w left i

all_indented : (layout : Layout) (text source : List ℕ) (ks : List Kind) (ps : List Piece)
    → Reads source ks ps
    → (spot : Spot) (opened : Opened) (item operands sign : Bool)
    → At layout text spot opened item operands sign ps → AreNames sign ks
    → (out : List ℕ) (us : List Token) → Walk (width text) out us → out ≡ laid_from layout spot ps
    → map unplaced us ≡ ks → AreIndented layout text opened item operands us
all_indented layout text _ _ _ (reads_end source e) spot opened item operands sign at names _ _
    (walk_end out f) q s = tt
all_indented layout text _ _ _ (reads_end source e) spot opened item operands sign at names _ _
    (walk_token out from more j us cut x) q s =
    absurd cc
all_indented layout text _ _ _ (reads_token trivia w rest k ks ps p i r) spot opened item operands sign at
    names _ _ (walk_end out f) q s =
    absurd cc
all_indented layout text _ _ _ (reads_token trivia w rest k ks ps p i r) spot opened item operands sign at names _ _
    (walk_token out from more j us cut x) q s =
    let kind : j ≡ k = cc in
    let kinds : map unplaced us ≡ ks = cc in
    let t = trail trivia (w ++ rest) p (has_characters k w rest i) 0 in
    let h = no_comment k w rest i in
    let pieces : comments (λ n. token_piece k w n ∷ ps) outside 0 trivia ≡ t.0 ++ (token_piece k w t.1 ∷ ps) =
    t.3 (λ n. token_piece k w n ∷ ps) in
    let known : out ≡ laid_from layout spot (t.0 ++ (token_piece k w t.1 ∷ ps)) = q
    ∙ ap (laid_from layout spot) pieces in
    let passed : after_trivia outside (laid_from layout spot (t.0 ++ (token_piece k w t.1 ∷ ps))) ≡ from =
    subst (λ xs. after_trivia outside xs ≡ from) known cut.passed in
    let b = trail_over layout text opened item operands sign from k w t.1 ps t.0 t.2 h spot
    (subst (At layout text spot opened item operands sign) pieces at)
    passed in
    let after = after_token layout b.spot k.class w t.1 ps in
    let left = laid_from layout after ps in
    let is : IsToken k w left = token_again b.spot.state k (operand_follows ps) w rest left i
    (λ d. after_parts layout rest ks ps r after w refl d) in
    let gap = gap_before_token layout b.spot (role_in b.spot.state k.class (operand_follows ps)) t.1 in
    let begins : from ≡ w ++ left = token_begins layout gap k w left from
    (laid_from layout b.spot (token_piece k w t.1 ∷ ps))
    (token_laid_here layout b.spot k.class w t.1 ps h) b.passed is in
    subst (λ (m : Kind). AreIndented layout text opened item operands (Placed (width text) m from more us))
    (sym kind)
    (token_step layout text b.spot opened item operands sign k w t.1 ps h is b.at names.0 from more begins us
    (λ xs u. all_indented layout text rest ks ps r after xs (ends_item k.class)
    (not (ends_operands k.class)) (k.class == SymAttr) u names.1 more us x
    (rest_known j k from more w left out cut kind is begins) kinds))

-- the tokens of the laid-out text are those of the source
same_kinds : (layout : Layout) (source : List ℕ) (ts us : List Token) → IsTokenList source ts finished
    → IsTokenList (laid_out layout (pieces source ts)) us finished → map unplaced us ≡ map unplaced ts
same_kinds layout source ts us h g =
    let out = laid_out layout (pieces source ts) in
    let after = lexed (map unplaced ts) (same_shape source ts h) (width out) out
    (laid_along layout source (map unplaced ts) (pieces source ts) (read source ts h)
    (first_spot layout (pieces source ts))) in
    ap (map unplaced) (tokens_unique (width out) out us after.0 finished finished g after.1).0 ∙ after.2

pub indents_lines : (layout : Layout) (source : List ℕ) (ts : List Token) → IsTokenList source ts finished
    → IsSentence written unit ts → IndentsLines layout (laid_out layout (pieces source ts))
indents_lines layout source ts h m us g =
    let text = laid_out layout (pieces source ts) in
    all_indented layout text source (map unplaced ts) (pieces source ts)
    (read source ts h) (first_spot layout (pieces source ts)) [] true false false (record {
      front = [];
      line = blank [];
      here = (refl, refl, refl);
      stands = at_start refl refl refl refl;
      agree = agree_none;
      item_begins = λ h b. refl;
      operands_begin = λ h. absurd (true≢false (sym h));
      after_sign = λ h. h;
    }) (module_names ts m) text us (walked (width text) text us finished refl g) refl
    (same_kinds layout source ts us h g)
