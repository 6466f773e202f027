-- Brackets that are in lines of their own, and how they are written.
use Rattle.std.proofs.Common.{◌≡◌, ℕ, suc, ◌+◌, ◌&&◌, Bool, true, false, cond, refl, sym, ap, ◌∙◌, List, length, arith}
use Rattle.std.specs.List.{position_or_len}
use Rattle.wgsl_model_tidy.specs.Roles.{Role, opening, template_start, opens, opens_bracket, closes}
use Rattle.std.proofs.lemmas.Bool.{false≢true}
use Rattle.wgsl_model_tidy.specs.Layout.{Layout}
use Rattle.wgsl_model_tidy.specs.Open.{Style, together, as_written, filled, item_by_item}
use Rattle.wgsl_model_tidy.specs.Ahead.{Ahead, ends_part, is_table, keeps_rows}
use Rattle.wgsl_model_tidy.specs.LaidOut.{line_column, style_of}
use Rattle.wgsl_format_layout.specs.Walks.{GoesPast}
use Rattle.wgsl_format_layout.specs.Spots.{breaks}
use Rattle.wgsl_format_layout.specs.declared.marks.MarkedToken.{MarkedToken}
use Rattle.wgsl_format_layout.proofs.Deeper.{position_deeper}
use Rattle.wgsl_format_layout.proofs.Reaching.{part_asks}

-- a bracket opens, and nothing closes
pub bracket_opens : (r : Role) → opens_bracket r ≡ true → opens r ≡ true
bracket_opens opening h = refl
bracket_opens template_start h = refl
bracket_opens r h = absurd (false≢true h)

pub bracket_closes_none : (r : Role) → opens_bracket r ≡ true → closes r ≡ false
bracket_closes_none opening h = refl
bracket_closes_none template_start h = refl
bracket_closes_none r h = absurd (false≢true h)

-- what follows it in its line ends where it does after the bracket
pub part_end_at : (place from end n limit : ℕ) (tokens : List MarkedToken) (ts : List Ahead)
    → (g : GoesPast place tokens n ts from) → end ≡ from + position_or_len (ends_part n limit) g.next
    → end ≡ suc place + position_or_len (ends_part n limit) ts
part_end_at place from end n limit tokens ts g e =
    let test = ends_part n limit in
    let past : position_or_len test ts ≡ length g.opened + position_or_len test g.next =
    ap (position_or_len test) g.is ∙ position_deeper n test (part_asks n limit) g.opened g.next g.deeper in
    omega (arith, e, g.stands, past)

-- ---- how it is written, by three tests

abbrev pub chosen : Bool → Bool → Bool → Style
chosen broken table rows = cond (broken && table) filled (cond rows as_written (cond broken item_by_item together))

pub style_chosen : (layout : Layout) (n limit depth column at : ℕ) (ts : List Ahead) (broken fills rows : Bool)
    → broken ≡ breaks layout n limit column ts → fills ≡ (broken && is_table (suc n) ts)
    → at ≡ line_column layout (suc depth) → rows ≡ keeps_rows layout (suc n) at ts
    → style_of layout n limit depth column ts
    ≡ cond fills filled (cond rows as_written (cond broken item_by_item together))
style_chosen layout n limit depth column at ts broken fills rows b f a r =
    sym (ap (λ (x : Bool). cond x filled (cond rows as_written (cond broken item_by_item together))) f
    ∙ ap (λ (x : Bool). cond (broken && is_table (suc n) ts) filled
    (cond x as_written (cond broken item_by_item together)))
    (r ∙ ap (λ k. keeps_rows layout (suc n) k ts) a)
    ∙ ap (λ (x : Bool). chosen x (is_table (suc n) ts)
    (keeps_rows layout (suc n) (line_column layout (suc depth)) ts)) b)

-- where it is filled
pub style_filled : (layout : Layout) (n limit depth column : ℕ) (ts : List Ahead) (broken : Bool)
    → broken ≡ breaks layout n limit column ts → true ≡ (broken && is_table (suc n) ts)
    → filled ≡ style_of layout n limit depth column ts
style_filled layout n limit depth column ts broken b f =
    sym (style_chosen layout n limit depth column (line_column layout (suc depth)) ts broken true
    (keeps_rows layout (suc n) (line_column layout (suc depth)) ts) b f refl refl)
