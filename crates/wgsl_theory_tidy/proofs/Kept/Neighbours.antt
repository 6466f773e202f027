-- What a token is to the characters after it: none of those that may be there makes a longer
-- token or a comment with it.
use Rattle.std.proofs.Common.{◌≡◌, ℕ, ◌==◌, ◌&&◌, ◌||◌, Bool, true, false, cond, not, refl, sym, subst, ◌∙◌, List, [], ◌∷◌, lit<}
use Rattle.std.proofs.lemmas.Bool.{true≢false, and_parts, or_left, eqb-true}
use Rattle.unicode_ident.proofs.IdentLemmas.{is_xid_start-ascii, is_xid_continue-ascii}
use Rattle.grammar.specs.Tables.{is_empty}
use Rattle.wgsl_model.specs.Tokens.Spelling.{spelling}
use Rattle.wgsl_model.proofs.Tokens.Characters.{other_than}
use Rattle.wgsl_theory_printed.proofs.Spelling.Spellings.{EndsAt}
use Rattle.wgsl_theory_printed.proofs.Spelling.Signs.{begins_name, begins_number, sign_ends_before}
use Rattle.wgsl_theory_printed.proofs.Spelling.Split.{goes_on_with}
use Rattle.wgsl_model_tidy.specs.Roles.{Role, opening, closing, template_start, block_start, block_end, comma, semicolon, colon, else_word, at, beginning, item_end, attribute, is, is_tight, opens_bracket, closes_bracket}
use Rattle.wgsl_model_tidy.specs.Joints.{Joint, line, nothing, space, nothing_or_line, space_or_line, closed_up, continues_line, joint_in_line, joint_in_lines, is_between_items, joint_in_own_lines, joint}
use Rattle.wgsl_model_tidy.specs.Open.{LayoutState, Enclosing, no_bracket, one_line, own_lines, filled_lines, item_lines, in_arguments, in_members, in_brackets, last_after}
use Rattle.wgsl_theory_tidy.proofs.Kept.Alone.{IsAlone, alone_ends, alone_before, space_alone, line_end_alone, brace_right_alone}
use Rattle.wgsl_theory_tidy.proofs.Kept.Touching.{less_no_name, slash_no_name, at_one, starts, is_tight_only, tight_only, Shaped, is_name, is_word, is_else, is_unsuffixed, is_number, is_opening, is_closing, is_less, is_other, touches}

-- ---- a token has characters, and is not what is before the text

no_characters : (left : Role) → Shaped left [] → ⊥
no_characters left h = elim h [ ]

no_beginning : (left : Role) → is_tight_only left ≡ true → is left beginning ≡ false
no_beginning beginning t = absurd (true≢false (sym t))
no_beginning left t = refl

pub not_beginning : (left : Role) (w : List ℕ) → Shaped left w → is left beginning ≡ false
not_beginning left w (is_other role x xs t) = no_beginning left t
not_beginning left w h = refl

-- a character that is in no token but alone
ends_alone : (left : Role) (w : List ℕ) (c : ℕ) → Shaped left w → IsAlone c → EndsAt w c
ends_alone left [] c h a = absurd (no_characters left h)
ends_alone left (x ∷ xs) c h a = alone_ends c x xs a

-- ---- what a token is to what follows it

-- the name or the end of an attribute, or the end of an item
tight_after : (left right : Role) (w : List ℕ) → is_tight_only left ≡ true → Shaped right w → Shaped left w
tight_after left right [] t h = absurd (no_characters right h)
tight_after left right (x ∷ xs) t h = is_other left x xs t

pub shaped_after : (state : LayoutState) (right : Role) (w : List ℕ) → Shaped right w
    → Shaped (last_after state right) w
shaped_after state right w h = go (not (opens_bracket right) && is state.last at)
    (is right closing && in_arguments state.opened) (is right comma && in_members state.opened)
    (is right semicolon && not (in_brackets state.opened))
  where
    go : (a b c d : Bool) → Shaped (cond a attribute (cond b attribute (cond c item_end (cond d item_end right)))) w
    go true b c d = tight_after attribute right w refl h
    go false true c d = tight_after attribute right w refl h
    go false false true d = tight_after item_end right w refl h
    go false false false true = tight_after item_end right w refl h
    go false false false false = h

-- ---- where nothing is between two tokens

-- they are closed up, or are `{` and `}`
pub data Close (left right : Role) : Type 0 where
  close_up : closed_up left right ≡ true → Close left right
  braces : is right block_end ≡ true → Close left right

-- nothing may be there
abbrev pub may_close : Joint → Bool
may_close nothing = true
may_close nothing_or_line = true
may_close joint = false

in_line_close : (left right : Role) → may_close (joint_in_line left right) ≡ true → Close left right
in_line_close left right = go (closed_up left right) refl
  where
    go : (h : Bool) → closed_up left right ≡ h → may_close (cond h nothing space) ≡ true → Close left right
    go true z m = close_up z
    go false z m = absurd (true≢false (sym m))

semicolon_tight : (right : Role) → is right semicolon ≡ true → is_tight right ≡ true
semicolon_tight semicolon h = refl
semicolon_tight right h = absurd (true≢false (sym h))

in_lines_close : (left right : Role) → may_close (joint_in_lines left right) ≡ true → Close left right
in_lines_close left right =
    go (is left block_start) (is right block_end) (is left item_end) (is left block_end)
    (is right else_word) (is_tight right) (is right semicolon) (is right block_start)
    (closed_up left right) (continues_line left) refl refl (semicolon_tight right) refl
  where
    go : (a b c d e f s g h i : Bool) → is right block_end ≡ b → is_tight right ≡ f
        → (s ≡ true → is_tight right ≡ true) → closed_up left right ≡ h
        → may_close (cond a (cond b nothing line)
        (cond c (cond s nothing_or_line line)
        (cond b line (cond d (cond e space (cond f (cond s nothing_or_line nothing) line))
        (cond g space (cond h nothing (cond i space_or_line space))))))) ≡ true → Close left right
    go true true c d e f s g h i x y t z m = braces x
    go true false c d e f s g h i x y t z m = absurd (true≢false (sym m))
    go false b true d e f true g h i x y t z m = close_up (or_left _ _ (or_left (is_tight right) _ (t refl)))
    go false b true d e f false g h i x y t z m = absurd (true≢false (sym m))
    go false true false d e f s g h i x y t z m = absurd (true≢false (sym m))
    go false false false true true f s g h i x y t z m = absurd (true≢false (sym m))
    go false false false true false true s g h i x y t z m = close_up (or_left _ _ (or_left (is_tight right) _ y))
    go false false false true false false s g h i x y t z m = absurd (true≢false (sym m))
    go false false false false e f s true h i x y t z m = absurd (true≢false (sym m))
    go false false false false e f s false true i x y t z m = close_up z
    go false false false false e f s false false true x y t z m = absurd (true≢false (sym m))
    go false false false false e f s false false false x y t z m = absurd (true≢false (sym m))

-- where a line ends nothing is closed up, nor between items
own_lines_close : (between : Joint) → may_close between ≡ false → (left right : Role)
    → may_close (joint_in_own_lines between left right) ≡ true → Close left right
own_lines_close between h left right =
    go (opens_bracket left || closes_bracket right) (is_between_items left right)
  where
    go : (b c : Bool) → may_close (cond b line (cond c between (joint_in_line left right))) ≡ true → Close left right
    go true c m = absurd (true≢false (sym m))
    go false true m = absurd (true≢false (sym m ∙ h))
    go false false m = in_line_close left right m

pub by_joint : (inside : Enclosing) (left right : Role) → may_close (joint inside left right) ≡ true → Close left right
by_joint no_bracket left right = in_lines_close left right
by_joint one_line left right = in_line_close left right
by_joint own_lines left right = own_lines_close space_or_line refl left right
by_joint filled_lines left right = own_lines_close space_or_line refl left right
by_joint item_lines left right = own_lines_close line refl left right

closing_brace : (right : Role) (x : ℕ) → is right block_end ≡ true → starts right x ≡ true → (x == 125) ≡ true
closing_brace block_end x h s = s
closing_brace right x h s = absurd (true≢false (sym h))

close_ends : (left right : Role) (w : List ℕ) (x : ℕ) → Shaped left w → starts right x ≡ true
    → Close left right → EndsAt w x
close_ends left right w x h s (close_up c) = touches left right w x h c s
close_ends left right w x h s (braces b) = at_one (EndsAt w) x 125 (closing_brace right x b s)
    (ends_alone left w 125 h brace_right_alone)

-- ---- before a comment

-- nothing is between these brackets and a comment
abbrev pub is_before_comment : Role → Bool
is_before_comment left = is left opening || is left template_start

opening_loose : (left : Role) → is_before_comment left ≡ true → is_tight_only left ≡ false
opening_loose opening e = refl
opening_loose template_start e = refl
opening_loose left e = absurd (true≢false (sym e))

opening_ends : (left : Role) (w : List ℕ) → Shaped left w → is_before_comment left ≡ true → EndsAt w 47
opening_ends left w (is_opening c a) e = alone_before c 47 a
opening_ends left w (is_less) e = sign_ends_before 60 [] (47 ∷ []) less_no_name refl refl
opening_ends left w (is_other role x xs t) e = absurd (true≢false (sym t ∙ opening_loose left e))
opening_ends left w h e = absurd (true≢false (sym e))

-- ---- after `/`

abbrev pub is_slash : List ℕ → Bool
is_slash [] = false
is_slash (c ∷ cs) = c == 47 && is_empty cs

-- neither `/` nor `*`, with which `/` begins a comment
abbrev pub NoComment : ℕ → Type 0
NoComment c = ((c == 47) ≡ false) × ((c == 42) ≡ false)

slash_goes_on : goes_on_with 47 spelling ≡ true
slash_goes_on = rw (is_xid_start-ascii 47 (lit< tt), is_xid_continue-ascii 47 (lit< tt)) refl

alone_no_slash : (c : ℕ) → IsAlone c → (c == 47 && true) ≡ true → ⊥
alone_no_slash c a s = true≢false (sym slash_goes_on ∙ subst IsAlone (eqb-true c 47 (and_parts (c == 47) true s).0) a)

-- a token that begins so is not `/`
first_no_slash : (f : ℕ → Bool) (x : ℕ) (xs : List ℕ) → f 47 ≡ false → f x ≡ true → (x == 47 && is_empty xs) ≡ true → ⊥
first_no_slash f x xs n h s = true≢false (sym (and_parts (x == 47) (is_empty xs) s).0 ∙ other_than f x h 47 n)

slash_is_tight : (left : Role) (w : List ℕ) → Shaped left w → is_slash w ≡ true → is_tight_only left ≡ true
slash_is_tight left w (is_name x xs b) s = absurd (first_no_slash begins_name x xs slash_no_name b s)
slash_is_tight left w (is_word x xs b) s = absurd (first_no_slash begins_name x xs slash_no_name b s)
slash_is_tight left w (is_else x xs b) s = absurd (first_no_slash begins_name x xs slash_no_name b s)
slash_is_tight left w (is_unsuffixed x xs b) s = absurd (first_no_slash begins_number x xs refl b s)
slash_is_tight left w (is_number x xs b p) s = absurd (first_no_slash begins_number x xs refl b s)
slash_is_tight left w (is_opening c a) s = absurd (alone_no_slash c a s)
slash_is_tight left w (is_closing c a) s = absurd (alone_no_slash c a s)
slash_is_tight left w (is_other role x xs t) s = t
slash_is_tight left w h s = absurd (true≢false (sym s))

-- a character that this test lets through, but no `/` and no `*`
by_test : (f : ℕ → Bool) (c : ℕ) → f c ≡ true → f 47 ≡ false → f 42 ≡ false → NoComment c
by_test f c h n m = (other_than f c h 47 n, other_than f c h 42 m)

tight_no_comment : (right : Role) (x : ℕ) → closed_up attribute right ≡ true → starts right x ≡ true → NoComment x
tight_no_comment comma x h s = by_test (starts comma) x s refl refl
tight_no_comment semicolon x h s = by_test (starts semicolon) x s refl refl
tight_no_comment colon x h s = by_test (starts colon) x s refl refl
tight_no_comment closing x h s = by_test (starts closing) x s refl refl
tight_no_comment opening x h s = by_test (starts opening) x s refl refl
tight_no_comment right x h s = absurd (true≢false (sym h))

close_no_comment : (left right : Role) (w : List ℕ) (x : ℕ) → Shaped left w → starts right x ≡ true
    → Close left right → is_slash w ≡ true → NoComment x
close_no_comment left right w x h s (close_up c) e = tight_no_comment right x
    (tight_only left right (slash_is_tight left w h e) c) s
close_no_comment left right w x h s (braces b) e = by_test (λ y. y == 125) x (closing_brace right x b s) refl refl

-- ---- all of it

-- a token and the character after it begin no longer token and no comment
abbrev pub PartsAt : List ℕ → ℕ → Type 0
PartsAt w c = EndsAt w c × (is_slash w ≡ true → NoComment c)

-- the same of every character that may be after it
pub record Parts (left : Role) (w : List ℕ) : Type 0 where
  pub line_end : PartsAt w 10
  pub space : PartsAt w 32
  pub comment : is_before_comment left ≡ true → PartsAt w 47
  pub token : (right : Role) (x : ℕ) → starts right x ≡ true → Close left right → PartsAt w x

pub parts : (left : Role) (w : List ℕ) → Shaped left w → Parts left w
parts left w h = record {
  line_end = (ends_alone left w 10 h line_end_alone, λ e. (refl, refl));
  space = (ends_alone left w 32 h space_alone, λ e. (refl, refl));
  comment =
      λ b. (opening_ends left w h b, λ e. absurd (true≢false (sym (slash_is_tight left w h e) ∙ opening_loose left b)));
  token = λ right x s c. (close_ends left right w x h s c, λ e. close_no_comment left right w x h s c e);
}
