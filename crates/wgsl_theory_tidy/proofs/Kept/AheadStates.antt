-- The tokens ahead, and the states before them: these are alike where a text is formatted, but for
-- how
-- brackets are written and for depths.
use Rattle.std.proofs.Common.{◌≡◌, ℕ, suc, ◌==◌, ◌||◌, Bool, true, false, cond, refl, sym, ap, ap₂, ◌∙◌, List, [], ◌∷◌, map, drop, length}
use Rattle.std.proofs.lemmas.Bool.{true≢false}
use Rattle.wgsl_model_tidy.specs.Pieces.{Piece}
use Rattle.wgsl_model_tidy.specs.Roles.{Role, opening, closing, template_start, template_end, block_start, block_end, attribute, is, opens, closes}
use Rattle.wgsl_model_tidy.specs.Layout.{Layout}
use Rattle.wgsl_model_tidy.specs.Joints.{is_between_items}
use Rattle.wgsl_model_tidy.specs.Open.{Style, together, Open, block, members, arguments, bracket, Opened, LayoutState, in_brackets, in_members, in_arguments, role_in, last_after, opened_after_token, after_token}
use Rattle.wgsl_model_tidy.specs.Ahead.{Ahead, is_comment, operand_follows, next_role, after_comment, token_ahead, tokens_ahead}

-- ---- what is open, by kind

abbrev kind : Open × ℕ → ℕ
kind (block, depth) = 0
kind (members, depth) = 1
kind (arguments style, depth) = 2
kind (bracket style, depth) = 3

abbrev brackets_by : List ℕ → Bool
brackets_by [] = false
brackets_by (k ∷ ks) = k == 2 || k == 3

abbrev first_is : ℕ → List ℕ → Bool
first_is n [] = false
first_is n (k ∷ ks) = k == n

brackets_kind : (opened : Opened) → in_brackets opened ≡ brackets_by (map kind opened)
brackets_kind [] = refl
brackets_kind ((block, depth) ∷ outer) = refl
brackets_kind ((members, depth) ∷ outer) = refl
brackets_kind ((arguments style, depth) ∷ outer) = refl
brackets_kind ((bracket style, depth) ∷ outer) = refl

members_kind : (opened : Opened) → in_members opened ≡ first_is 1 (map kind opened)
members_kind [] = refl
members_kind ((block, depth) ∷ outer) = refl
members_kind ((members, depth) ∷ outer) = refl
members_kind ((arguments style, depth) ∷ outer) = refl
members_kind ((bracket style, depth) ∷ outer) = refl

arguments_kind : (opened : Opened) → in_arguments opened ≡ first_is 2 (map kind opened)
arguments_kind [] = refl
arguments_kind ((block, depth) ∷ outer) = refl
arguments_kind ((members, depth) ∷ outer) = refl
arguments_kind ((arguments style, depth) ∷ outer) = refl
arguments_kind ((bracket style, depth) ∷ outer) = refl

length_kind : (opened : Opened) → length opened ≡ length (map kind opened)
length_kind [] = refl
length_kind (x ∷ outer) = ap suc (length_kind outer)

drop_kind : (opened : Opened) → map kind (drop 1 opened) ≡ drop 1 (map kind opened)
drop_kind [] = refl
drop_kind (x ∷ outer) = refl

kind_of_either : (b : Bool) (x y : Open) (depth : ℕ)
    → kind (cond b x y, depth) ≡ cond b (kind (x, depth)) (kind (y, depth))
kind_of_either true x y depth = refl
kind_of_either false x y depth = refl

-- ---- states that are alike

pub record AreAlike (a s : LayoutState) : Type 0 where
  pub last : a.last ≡ s.last
  pub structure : a.structure ≡ s.structure
  pub kinds : map kind a.opened ≡ map kind s.opened

pub length_alike : (a s : LayoutState) → AreAlike a s → length a.opened ≡ length s.opened
length_alike a s h = length_kind a.opened ∙ ap length h.kinds ∙ sym (length_kind s.opened)

last_alike : (a s : LayoutState) → AreAlike a s → (right : Role) → last_after a right ≡ last_after s right
last_alike a s h right =
    let by_arguments : in_arguments a.opened ≡ in_arguments s.opened = arguments_kind a.opened ∙ ap (first_is 2) h.kinds
    ∙ sym (arguments_kind s.opened) in
    let by_members : in_members a.opened ≡ in_members s.opened = members_kind a.opened ∙ ap (first_is 1) h.kinds
    ∙ sym (members_kind s.opened) in
    let by_brackets : in_brackets a.opened ≡ in_brackets s.opened = brackets_kind a.opened ∙ ap brackets_by h.kinds
    ∙ sym (brackets_kind s.opened) in
    rw (h.last, by_arguments, by_members, by_brackets) refl

opened_alike : (a s : LayoutState) → AreAlike a s → (m n : ℕ) (right : Role) (x y : Style)
    → map kind (opened_after_token a m right x) ≡ map kind (opened_after_token s n right y)
opened_alike a s h m n block_start x y =
    ap₂ (λ (k : ℕ) ks. k ∷ ks) (kind_of_either a.structure members block _ ∙ ap (λ b. cond b 1 0) h.structure
    ∙ sym (kind_of_either s.structure members block _)) h.kinds
opened_alike a s h m n opening x y =
    ap₂ (λ (k : ℕ) ks. k ∷ ks) (kind_of_either (is a.last attribute) (arguments x) (bracket x) m
    ∙ ap (λ (r : Role). cond (is r attribute) 2 3) h.last
    ∙ sym (kind_of_either (is s.last attribute) (arguments y) (bracket y) n)) h.kinds
opened_alike a s h m n template_start x y = ap (λ ks. 3 ∷ ks) h.kinds
opened_alike a s h m n closing x y = drop_kind a.opened ∙ ap (drop 1) h.kinds ∙ sym (drop_kind s.opened)
opened_alike a s h m n template_end x y = drop_kind a.opened ∙ ap (drop 1) h.kinds ∙ sym (drop_kind s.opened)
opened_alike a s h m n block_end x y = drop_kind a.opened ∙ ap (drop 1) h.kinds ∙ sym (drop_kind s.opened)
opened_alike a s h m n right x y = h.kinds

pub alike_after : (a s : LayoutState) → AreAlike a s → (m n class : ℕ) (right : Role) (x y : Style)
    → AreAlike (after_token a m class right x) (after_token s n class right y)
alike_after a s h m n class right x y = record {
  last = last_alike a s h right;
  structure = rw (h.last, h.structure) refl;
  kinds = opened_alike a s h m n right x y;
}

-- what the first token does
pub next_alike : (a s : LayoutState) → AreAlike a s → (ps : List Piece) → next_role a ps ≡ next_role s ps
next_alike a s h [] = refl
next_alike a s h (p ∷ ps) =
    ap₂ (λ (r : Role) (last : Role). cond (is_comment p.class) r
    (role_in (record a { last = last }) p.class (operand_follows ps)))
    (next_alike a s h ps) h.last

-- ---- what a token opens or closes

pub opened_more : (s : LayoutState) (line : ℕ) (right : Role) (style : Style) → opens right ≡ true
    → (x : Open × ℕ) × (opened_after_token s line right style ≡ x ∷ s.opened)
opened_more s line opening style h = (_, refl)
opened_more s line template_start style h = (_, refl)
opened_more s line block_start style h = (_, refl)
opened_more s line right style h = absurd (true≢false (sym h))

pub opened_less : (s : LayoutState) (line : ℕ) (right : Role) (style : Style) → closes right ≡ true
    → opened_after_token s line right style ≡ drop 1 s.opened
opened_less s line closing style h = refl
opened_less s line template_end style h = refl
opened_less s line block_end style h = refl
opened_less s line right style h = absurd (true≢false (sym h))

pub opened_same : (s : LayoutState) (line : ℕ) (right : Role) (style : Style) → opens right ≡ false
    → closes right ≡ false → opened_after_token s line right style ≡ s.opened
opened_same s line opening style h k = absurd (true≢false h)
opened_same s line template_start style h k = absurd (true≢false h)
opened_same s line block_start style h k = absurd (true≢false h)
opened_same s line closing style h k = absurd (true≢false k)
opened_same s line template_end style h k = absurd (true≢false k)
opened_same s line block_end style h k = absurd (true≢false k)
opened_same s line right style h k = refl

-- ---- the first token ahead

pub record IsFirst (a : LayoutState) (right : Role) (t : Ahead) : Type 0 where
  pub role : t.role ≡ right
  pub level : t.level ≡ length a.opened
  pub item : t.item ≡ is_between_items a.last right

abbrev pub FirstIs : LayoutState → Role → List Ahead → Type 0
FirstIs a right [] = Unit {0}
FirstIs a right (t ∷ ts) = IsFirst a right t

after_first_comment : (layout : Layout) (a : LayoutState) (right : Role) (p : Piece) (ts : List Ahead)
    → FirstIs a right ts → FirstIs a right (after_comment layout p ts)
after_first_comment layout a right p [] h = h
after_first_comment layout a right p (t ∷ ts) h = record { role = h.role; level = h.level; item = h.item }

pub first_ahead : (layout : Layout) (a : LayoutState) (ps : List Piece)
    → FirstIs a (next_role a ps) (tokens_ahead layout a ps)
first_ahead layout a [] = tt
first_ahead layout a (p ∷ ps) = go (is_comment p.class) (first_ahead layout a ps)
  where
    right : Role
    right = role_in a p.class (operand_follows ps)

    after : List Ahead
    after = tokens_ahead layout (after_token a 0 p.class right together) ps

    go : (b : Bool) → FirstIs a (next_role a ps) (tokens_ahead layout a ps)
        → FirstIs a (cond b (next_role a ps) right) (cond b (after_comment layout p (tokens_ahead layout a ps))
        (token_ahead layout a right p after ∷ after))
    go true h = after_first_comment layout a (next_role a ps) p (tokens_ahead layout a ps) h
    go false h = record { role = refl; level = refl; item = refl }
