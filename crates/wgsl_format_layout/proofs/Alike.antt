-- What tokens do, and are to what follows them, is the same after states that are alike.
use Rattle.std.proofs.Common.{◌≡◌, ℕ, ◌==◌, ◌||◌, Bool, true, false, cond, refl, sym, ap, ap₂, ◌∙◌, List, [], ◌∷◌, map, drop}
use Rattle.wgsl_model_tidy.specs.Pieces.{Piece}
use Rattle.wgsl_model_tidy.specs.Roles.{Role, opening, closing, template_start, template_end, block_start, block_end, attribute, is}
use Rattle.wgsl_model_tidy.specs.Open.{Style, Open, block, members, arguments, bracket, Opened, LayoutState, in_brackets, in_members, in_arguments, role_in, last_after, opened_after_token, after_token}
use Rattle.wgsl_model_tidy.specs.Ahead.{is_comment, operand_follows, next_role}
use Rattle.wgsl_format_layout.specs.Alike.{kind, AreAlike}

-- ---- what is open, by kind

abbrev brackets_by : List ℕ → Bool
brackets_by [] = false
brackets_by (k ∷ ks) = k == 2 || k == 3

abbrev first_is : ℕ → List ℕ → Bool
first_is n [] = false
first_is n (k ∷ ks) = k == n

brackets_kind : (opened : Opened) → in_brackets opened ≡ brackets_by (map kind opened)
brackets_kind [] = refl
brackets_kind ((block, depth) ∷ outer) = refl
brackets_kind ((members, depth) ∷ outer) = refl
brackets_kind ((arguments style, depth) ∷ outer) = refl
brackets_kind ((bracket style, depth) ∷ outer) = refl

members_kind : (opened : Opened) → in_members opened ≡ first_is 1 (map kind opened)
members_kind [] = refl
members_kind ((block, depth) ∷ outer) = refl
members_kind ((members, depth) ∷ outer) = refl
members_kind ((arguments style, depth) ∷ outer) = refl
members_kind ((bracket style, depth) ∷ outer) = refl

arguments_kind : (opened : Opened) → in_arguments opened ≡ first_is 2 (map kind opened)
arguments_kind [] = refl
arguments_kind ((block, depth) ∷ outer) = refl
arguments_kind ((members, depth) ∷ outer) = refl
arguments_kind ((arguments style, depth) ∷ outer) = refl
arguments_kind ((bracket style, depth) ∷ outer) = refl

drop_kind : (opened : Opened) → map kind (drop 1 opened) ≡ drop 1 (map kind opened)
drop_kind [] = refl
drop_kind (x ∷ outer) = refl

kind_of_either : (b : Bool) (x y : Open) (depth : ℕ)
    → kind (cond b x y, depth) ≡ cond b (kind (x, depth)) (kind (y, depth))
kind_of_either true x y depth = refl
kind_of_either false x y depth = refl

-- ---- states that are alike

pub last_alike : (a s : LayoutState) → AreAlike a s → (right : Role) → last_after a right ≡ last_after s right
last_alike a s h right =
    let by_arguments : in_arguments a.opened ≡ in_arguments s.opened = arguments_kind a.opened ∙ ap (first_is 2) h.kinds
    ∙ sym (arguments_kind s.opened) in
    let by_members : in_members a.opened ≡ in_members s.opened = members_kind a.opened ∙ ap (first_is 1) h.kinds
    ∙ sym (members_kind s.opened) in
    let by_brackets : in_brackets a.opened ≡ in_brackets s.opened = brackets_kind a.opened ∙ ap brackets_by h.kinds
    ∙ sym (brackets_kind s.opened) in
    rw (h.last, by_arguments, by_members, by_brackets) refl

opened_alike : (a s : LayoutState) → AreAlike a s → (m n : ℕ) (right : Role) (x y : Style)
    → map kind (opened_after_token a m right x) ≡ map kind (opened_after_token s n right y)
opened_alike a s h m n block_start x y =
    ap₂ (λ (k : ℕ) ks. k ∷ ks) (kind_of_either a.structure members block _ ∙ ap (λ b. cond b 1 0) h.structure
    ∙ sym (kind_of_either s.structure members block _)) h.kinds
opened_alike a s h m n opening x y =
    ap₂ (λ (k : ℕ) ks. k ∷ ks) (kind_of_either (is a.last attribute) (arguments x) (bracket x) m
    ∙ ap (λ (r : Role). cond (is r attribute) 2 3) h.last
    ∙ sym (kind_of_either (is s.last attribute) (arguments y) (bracket y) n)) h.kinds
opened_alike a s h m n template_start x y = ap (λ ks. 3 ∷ ks) h.kinds
opened_alike a s h m n closing x y = drop_kind a.opened ∙ ap (drop 1) h.kinds ∙ sym (drop_kind s.opened)
opened_alike a s h m n template_end x y = drop_kind a.opened ∙ ap (drop 1) h.kinds ∙ sym (drop_kind s.opened)
opened_alike a s h m n block_end x y = drop_kind a.opened ∙ ap (drop 1) h.kinds ∙ sym (drop_kind s.opened)
opened_alike a s h m n right x y = h.kinds

pub alike_after : (a s : LayoutState) → AreAlike a s → (m n class : ℕ) (right : Role) (x y : Style)
    → AreAlike (after_token a m class right x) (after_token s n class right y)
alike_after a s h m n class right x y = record {
  last = last_alike a s h right;
  structure = rw (h.last, h.structure) refl;
  kinds = opened_alike a s h m n right x y;
}

-- what the first token does
pub next_alike : (a s : LayoutState) → AreAlike a s → (ps : List Piece) → next_role a ps ≡ next_role s ps
next_alike a s h [] = refl
next_alike a s h (p ∷ ps) =
    ap₂ (λ (r : Role) (last : Role). cond (is_comment p.class) r
    (role_in (record a { last = last }) p.class (operand_follows ps)))
    (next_alike a s h ps) h.last
