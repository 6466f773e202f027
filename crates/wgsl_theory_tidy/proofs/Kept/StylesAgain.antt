-- A bracket is written as it was where a text is formatted again.
use Rattle.std.proofs.Common.{◌≡◌, ℕ, suc, ◌+◌, ◌==◌, ◌&&◌, ◌||◌, not, Bool, true, false, cond, nat_lt, ◌⊎◌, inl, inr, refl, sym, ap, ap₂, subst, ◌∙◌, List, [], ◌∷◌, map, take, length, filter, arith}
use Rattle.std.specs.List.{list_any, list_all, prefix_len}
use Rattle.std.proofs.lemmas.Bool.{and_parts, true≢false}
use Rattle.wgsl_model_tidy.specs.Roles.{comma, is, closes}
use Rattle.wgsl_model_tidy.specs.Layout.{Layout}
use Rattle.wgsl_model_tidy.specs.Open.{Style, together, as_written, filled, item_by_item, enclosed_by}
use Rattle.wgsl_model_tidy.specs.Ahead.{Ahead, at_front, has_several, fits, never, ends_part, last_passes, content, in_first, lines, is_row, keeps_rows, is_table}
use Rattle.wgsl_model_tidy.specs.LaidOut.{line_column, style_of, is_filled}
use Rattle.wgsl_theory_tidy.proofs.Kept.PlainAhead.{plain, any_plain, fits_plain, front_plain, several_plain, comma_plain, table_plain}
use Rattle.wgsl_theory_tidy.proofs.Kept.LinesAgain.{equal_self, Stops, IsKept, Rows}

-- the same tokens ahead, but for the author's line breaks
abbrev pub AreSame : List Ahead → List Ahead → Type 0
AreSame ts us = map plain us ≡ map plain ts

-- ---- what is in a bracket, token by token

abbrev closing_at : ℕ → Ahead → Bool
closing_at n t = t.level == n && closes t.role

content_ends : (n : ℕ) (t : Ahead) (ts : List Ahead) → closing_at n t ≡ true → content n (t ∷ ts) ≡ []
content_ends n t ts h = ap (λ b. take (cond (not b) (1 + prefix_len (λ x. not (closing_at n x)) ts) 0) (t ∷ ts)) h

take_one : (k : ℕ) (t : Ahead) (ts : List Ahead) → take (1 + k) (t ∷ ts) ≡ t ∷ take k ts
take_one k t ts = let one : 1 + k ≡ suc k = omega arith in ap (λ n. take n (t ∷ ts)) one

content_goes : (n : ℕ) (t : Ahead) (ts : List Ahead) → closing_at n t ≡ false → content n (t ∷ ts) ≡ t ∷ content n ts
content_goes n t ts h = ap (λ b. take (cond (not b) (1 + prefix_len (λ x. not (closing_at n x)) ts) 0) (t ∷ ts)) h
    ∙ take_one (prefix_len (λ x. not (closing_at n x)) ts) t ts

-- an item begins a line of the author's
abbrev begins_row : ℕ → Ahead → Bool
begins_row n t = t.level == n && (t.item && (t.below || t.ends))

lines_more : (n : ℕ) (t : Ahead) (ts : List Ahead) (b : Bool) → begins_row n t ≡ b
    → lines n (t ∷ ts) ≡ cond b ([] ∷ in_first t (lines n ts)) (in_first t (lines n ts))
lines_more n t ts b h = ap (λ c. cond c ([] ∷ in_first t (lines n ts)) (in_first t (lines n ts))) h

-- ---- rows, wherever line breaks are

is_row_plain : (n : ℕ) (ts : List Ahead) → is_row n (map plain ts) ≡ is_row n ts
is_row_plain n [] = refl
is_row_plain n (t ∷ ts) = any_plain (λ u. u.level == n && u.item) (λ u. refl) ts

rows_plain : (n : ℕ) (ls : List (List Ahead))
    → filter (is_row n) (map (map plain) ls) ≡ map (map plain) (filter (is_row n) ls)
rows_plain n [] = refl
rows_plain n (l ∷ ls) =
    ap₂ (λ (b : Bool) ks. cond b (map plain l ∷ ks) ks) (is_row_plain n l) (rows_plain n ls) ∙ go (is_row n l)
  where
    go : (b : Bool)
        → cond b (map plain l ∷ map (map plain) (filter (is_row n) ls)) (map (map plain) (filter (is_row n) ls))
        ≡ map (map plain) (cond b (l ∷ filter (is_row n) ls) (filter (is_row n) ls))
    go true = refl
    go false = refl

length_plain : (ls : List (List Ahead)) → length (map (map plain) ls) ≡ length ls
length_plain [] = refl
length_plain (l ∷ ls) = ap suc (length_plain ls)

fit_plain : (layout : Layout) (column : ℕ) (ls : List (List Ahead))
    → list_all (λ row. fits layout never column (at_front row)) (map (map plain) ls)
    ≡ list_all (λ row. fits layout never column (at_front row)) ls
fit_plain layout column [] = refl
fit_plain layout column (l ∷ ls) = ap₂ (λ (a b : Bool). a && b)
    (ap (fits layout never column) (front_plain l) ∙ fits_plain layout never (λ t. refl) column (at_front l))
    (fit_plain layout column ls)

-- lines are kept
abbrev keeps : Layout → ℕ → ℕ → List (List Ahead) → Bool
keeps layout n column ls = nat_lt 1 (length (filter (is_row n) ls))
    && list_all (λ row. fits layout never column (at_front row)) (filter (is_row n) ls)

keeps_plain : (layout : Layout) (n column : ℕ) (ls : List (List Ahead))
    → keeps layout n column (map (map plain) ls) ≡ keeps layout n column ls
keeps_plain layout n column ls =
    ap (λ rows. nat_lt 1 (length rows) && list_all (λ row. fits layout never column (at_front row)) rows)
    (rows_plain n ls)
    ∙ ap₂ (λ (k : ℕ) (b : Bool). nat_lt 1 k && b) (length_plain (filter (is_row n) ls))
    (fit_plain layout column (filter (is_row n) ls))

no_rows : (layout : Layout) (n column : ℕ) (ls : List (List Ahead)) → filter (is_row n) ls ≡ []
    → keeps layout n column ls ≡ false
no_rows layout n column ls h =
    ap (λ rows. nat_lt 1 (length rows) && list_all (λ row. fits layout never column (at_front row)) rows) h

first_plain : (t : Ahead) (ls : List (List Ahead))
    → map (map plain) (in_first t ls) ≡ in_first (plain t) (map (map plain) ls)
first_plain t [] = refl
first_plain t (l ∷ ls) = refl

-- ---- the author's lines stay

same_test : (l i b e x : Bool) → (l ≡ true → i ≡ true → e ≡ false → x ≡ b)
    → (l && (i && (x || e))) ≡ (l && (i && (b || e)))
same_test true true b true x h = both x b
  where
    both : (x b : Bool) → (x || true) ≡ (b || true)
    both true true = refl
    both true false = refl
    both false true = refl
    both false false = refl
same_test true true b false x h = ap (λ c. c || false) (h refl refl refl)
same_test true false b e x h = refl
same_test false i b e x h = refl

not_closing : (a b : Bool) → a ≡ true → (a && b) ≡ false → b ≡ false
not_closing true b h k = k
not_closing false b h k = absurd (true≢false (sym h))

-- the first of them, and the others
pub head_same : (t u : Ahead) (ts us : List Ahead) → AreSame (t ∷ ts) (u ∷ us) → plain u ≡ plain t
head_same t u ts us h = cc

pub tail_same : (t u : Ahead) (ts us : List Ahead) → AreSame (t ∷ ts) (u ∷ us) → AreSame ts us
tail_same t u ts us h = cc

-- the test of an item in the formatted text
row_by : (n : ℕ) (t u : Ahead) → plain u ≡ plain t
    → begins_row n u ≡ (t.level == n && (t.item && (u.below || t.ends)))
row_by n t u h = ap (λ (x : Ahead). x.level == n && (x.item && (u.below || x.ends))) h

closing_same : (n : ℕ) (t u : Ahead) → plain u ≡ plain t → closing_at n u ≡ closing_at n t
closing_same n t u h = ap (λ (x : Ahead). closing_at n x) h

written_lines : (m : ℕ) (ts us : List Ahead) → Rows m as_written true ts us → AreSame ts us
    → map (map plain) (lines (suc m) (content (suc m) us)) ≡ map (map plain) (lines (suc m) (content (suc m) ts))
written_lines m [] [] r h = refl
written_lines m [] (u ∷ us) r h = absurd r
written_lines m (t ∷ ts) [] r h = absurd r
written_lines m (t ∷ ts) (u ∷ us) r h = go (closing_at (suc m) t) refl r
    (λ s. written_lines m ts us s (tail_same t u ts us h))
  where
    n : ℕ
    n = suc m

    head : plain u ≡ plain t
    head = head_same t u ts us h

    split : (b : Bool) → begins_row n t ≡ b → begins_row n u ≡ b
        → map (map plain) (lines n (content n us)) ≡ map (map plain) (lines n (content n ts))
        → map (map plain) (lines n (u ∷ content n us)) ≡ map (map plain) (lines n (t ∷ content n ts))
    split true e f others =
        ap (map (map plain)) (lines_more n u (content n us) true f)
        ∙ ap (λ ls. [] ∷ ls) (first_plain u (lines n (content n us)) ∙ ap₂ in_first head others
        ∙ sym (first_plain t (lines n (content n ts))))
        ∙ sym (ap (map (map plain)) (lines_more n t (content n ts) true e))
    split false e f others =
        ap (map (map plain)) (lines_more n u (content n us) false f)
        ∙ (first_plain u (lines n (content n us)) ∙ ap₂ in_first head others
        ∙ sym (first_plain t (lines n (content n ts))))
        ∙ sym (ap (map (map plain)) (lines_more n t (content n ts) false e))

    go : (b : Bool) → closing_at n t ≡ b
        → Stops b (IsKept n as_written true t u × ((t.level == m) ≡ false) × Rows m as_written true ts us)
        → (Rows m as_written true ts us
        → map (map plain) (lines n (content n us)) ≡ map (map plain) (lines n (content n ts)))
        → map (map plain) (lines n (content n (u ∷ us))) ≡ map (map plain) (lines n (content n (t ∷ ts)))
    go true e s others = ap (λ ls. map (map plain) (lines n ls)) (content_ends n u us (closing_same n t u head ∙ e))
        ∙ sym (ap (λ ls. map (map plain) (lines n ls)) (content_ends n t ts e))
    go false e s others =
        ap (λ ls. map (map plain) (lines n ls)) (content_goes n u us (closing_same n t u head ∙ e))
        ∙ split (begins_row n t) refl (row_by n t u head ∙ same_test (t.level == n) t.item t.below t.ends u.below
        (λ l i x. s.0 refl l (not_closing (t.level == n) (closes t.role) l e) i x)) (others s.2)
        ∙ sym (ap (λ ls. map (map plain) (lines n ls)) (content_goes n t ts e))

written_keeps : (layout : Layout) (m column : ℕ) (ts us : List Ahead) → Rows m as_written true ts us → AreSame ts us
    → keeps_rows layout (suc m) column us ≡ keeps_rows layout (suc m) column ts
written_keeps layout m column ts us r h =
    sym (keeps_plain layout (suc m) column (lines (suc m) (content (suc m) us)))
    ∙ ap (keeps layout (suc m) column) (written_lines m ts us r h)
    ∙ keeps_plain layout (suc m) column (lines (suc m) (content (suc m) ts))

-- ---- each item is in a line

is_item : ℕ → Ahead → Bool
is_item n t = t.level == n && t.item

-- no item begins in the first line, and no line after it is a row
abbrev NoItems : ℕ → List (List Ahead) → Type 0
NoItems n [] = Unit {0}
NoItems n (l ∷ ls) = (list_any (λ u. u.level == n && u.item) l ≡ false) × (filter (is_row n) ls ≡ [])

-- a token more at their front
item_row : (n : ℕ) (t : Ahead) (ls : List (List Ahead)) → NoItems n ls → filter (is_row n) (in_first t ls) ≡ []
item_row n t [] h = refl
item_row n t (l ∷ ls) h = ap (λ b. cond b ((t ∷ l) ∷ filter (is_row n) ls) (filter (is_row n) ls)) h.0 ∙ h.1

item_first : (n : ℕ) (t : Ahead) (ls : List (List Ahead)) → (t.level == n && t.item) ≡ false → NoItems n ls
    → NoItems n (in_first t ls)
item_first n t [] e h = (ap (λ b. b || false) e, refl)
item_first n t (l ∷ ls) e h = (ap₂ (λ (a b : Bool). a || b) e h.0, h.1)

item_more : (n : ℕ) (t : Ahead) (ts : List Ahead) → ((t.level == n && t.item) ≡ true → begins_row n t ≡ true)
    → NoItems n (lines n ts) → NoItems n (lines n (t ∷ ts))
item_more n t ts f h = go (begins_row n t) refl
  where
    no_item : (b : Bool) → (t.level == n && t.item) ≡ b → begins_row n t ≡ false → (t.level == n && t.item) ≡ false
    no_item true e k = absurd (true≢false (sym (f e) ∙ k))
    no_item false e k = e

    go : (b : Bool) → begins_row n t ≡ b → NoItems n (lines n (t ∷ ts))
    go true e = subst (NoItems n) (sym (lines_more n t ts true e)) (refl, item_row n t (lines n ts) h)
    go false e = subst (NoItems n) (sym (lines_more n t ts false e))
        (item_first n t (lines n ts) (no_item (t.level == n && t.item) refl e) h)

-- an item begins a line
row_at_item : (n : ℕ) (t u : Ahead) → plain u ≡ plain t
    → ((t.level == n) ≡ true → t.item ≡ true → t.ends ≡ false → u.below ≡ true)
    → (u.level == n && u.item) ≡ true → begins_row n u ≡ true
row_at_item n t u h f e =
    row_by n t u h ∙ go (t.level == n) t.item t.ends f (ap (λ (x : Ahead). x.level == n && x.item) (sym h) ∙ e)
  where
    go : (l i x : Bool) → (l ≡ true → i ≡ true → x ≡ false → u.below ≡ true) → (l && i) ≡ true
        → (l && (i && (u.below || x))) ≡ true
    go true true true k e = or_true u.below
      where
        or_true : (b : Bool) → (b || true) ≡ true
        or_true true = refl
        or_true false = refl
    go true true false k e = ap (λ b. b || false) (k refl refl refl)
    go true false x k e = absurd (true≢false (sym e))
    go false i x k e = absurd (true≢false (sym e))

no_items : (m : ℕ) (ts us : List Ahead) → Rows m item_by_item true ts us → AreSame ts us
    → NoItems (suc m) (lines (suc m) (content (suc m) us))
no_items m [] [] r h = tt
no_items m [] (u ∷ us) r h = absurd r
no_items m (t ∷ ts) [] r h = absurd r
no_items m (t ∷ ts) (u ∷ us) r h = go (closing_at (suc m) t) refl r (λ s. no_items m ts us s (tail_same t u ts us h))
  where
    n : ℕ
    n = suc m

    head : plain u ≡ plain t
    head = head_same t u ts us h

    go : (b : Bool) → closing_at n t ≡ b
        → Stops b (IsKept n item_by_item true t u × ((t.level == m) ≡ false) × Rows m item_by_item true ts us)
        → (Rows m item_by_item true ts us → NoItems n (lines n (content n us)))
        → NoItems n (lines n (content n (u ∷ us)))
    go true e s others = subst (λ xs. NoItems n (lines n xs))
        (sym (content_ends n u us (closing_same n t u head ∙ e))) tt
    go false e s others = subst (λ xs. NoItems n (lines n xs)) (sym (content_goes n u us (closing_same n t u head ∙ e)))
        (item_more n u (content n us) (row_at_item n t u head
        (λ l i x. s.0 refl l (not_closing (t.level == n) (closes t.role) l e) i x)) (others s.2))

no_item_rows : (n : ℕ) (ls : List (List Ahead)) → NoItems n ls → filter (is_row n) ls ≡ []
no_item_rows n [] h = refl
no_item_rows n ([] ∷ ls) h = h.1
no_item_rows n ((t ∷ l) ∷ ls) h =
    ap (λ b. cond b ((t ∷ l) ∷ filter (is_row n) ls) (filter (is_row n) ls)) (second (t.level == n && t.item) h.0) ∙ h.1
  where
    second : (b : Bool) → (b || list_any (λ u. u.level == n && u.item) l) ≡ false
        → list_any (λ u. u.level == n && u.item) l ≡ false
    second true e = absurd (true≢false e)
    second false e = e

item_keeps : (layout : Layout) (m column : ℕ) (ts us : List Ahead) → Rows m item_by_item true ts us → AreSame ts us
    → keeps_rows layout (suc m) column us ≡ false
item_keeps layout m column ts us r h = no_rows layout (suc m) column (lines (suc m) (content (suc m) us))
    (no_item_rows (suc m) (lines (suc m) (content (suc m) us)) (no_items m ts us r h))

-- ---- all are in one line

-- no line, or one
abbrev IsSingle : List (List Ahead) → Type 0
IsSingle [] = Unit {0}
IsSingle (l ∷ []) = Unit {0}
IsSingle (l ∷ (k ∷ ls)) = ⊥

single_first : (t : Ahead) (ls : List (List Ahead)) → IsSingle ls → IsSingle (in_first t ls)
single_first t [] h = tt
single_first t (l ∷ []) h = tt
single_first t (l ∷ (k ∷ ls)) h = h

single_more : (n : ℕ) (t : Ahead) (ts : List Ahead) → begins_row n t ≡ false → IsSingle (lines n ts)
    → IsSingle (lines n (t ∷ ts))
single_more n t ts e h = subst IsSingle (sym (lines_more n t ts false e)) (single_first t (lines n ts) h)

single_keeps : (layout : Layout) (n column : ℕ) (ls : List (List Ahead)) → IsSingle ls
    → keeps layout n column ls ≡ false
single_keeps layout n column [] h = refl
single_keeps layout n column (l ∷ []) h = go (is_row n l)
  where
    go : (b : Bool) → (nat_lt 1 (length (cond b (l ∷ []) []))
        && list_all (λ row. fits layout never column (at_front row)) (cond b (l ∷ []) [])) ≡ false
    go true = refl
    go false = refl
single_keeps layout n column (l ∷ (k ∷ ls)) h = absurd h

-- no line has to end in the bracket
no_row : (n : ℕ) (t u : Ahead) → plain u ≡ plain t → t.ends ≡ false
    → ((t.level == n) ≡ true → t.item ≡ true → t.ends ≡ false → u.below ≡ false) → begins_row n u ≡ false
no_row n t u h e f = row_by n t u h ∙ go (t.level == n) t.item t.ends e f
  where
    go : (l i x : Bool) → x ≡ false → (l ≡ true → i ≡ true → x ≡ false → u.below ≡ false)
        → (l && (i && (u.below || x))) ≡ false
    go true true true e k = absurd (true≢false e)
    go true true false e k = ap (λ b. b || false) (k refl refl refl)
    go true false x e k = refl
    go false i x e k = refl

no_end : (ends : Bool) (rest : Bool) → (not ends && rest) ≡ true → ends ≡ false
no_end true rest h = absurd (true≢false (sym h))
no_end false rest h = refl

not_here : (l a b c : Bool) → l ≡ false → cond (l && a) b c ≡ c
not_here true a b c h = absurd (true≢false h)
not_here false a b c h = refl

fits_step : (layout : Layout) (m limit column : ℕ) (t : Ahead) (ts : List Ahead) → (t.level == m) ≡ false
    → fits layout (ends_part m limit) column (t ∷ ts) ≡ true
    → (t.ends ≡ false) × (fits layout (ends_part m limit) (column + (t.space + t.width)) ts ≡ true)
fits_step layout m limit column t ts l h =
    let rest : (not t.ends && fits layout (ends_part m limit) (column + (t.space + t.width)) ts) ≡ true =
    sym (not_here (t.level == m) _ _ _ l) ∙ h in
    (no_end t.ends _ rest, (and_parts (not t.ends) _ rest).1)

single_fits : (layout : Layout) (m limit column : ℕ) (ts us : List Ahead) → Rows m together true ts us → AreSame ts us
    → fits layout (ends_part m limit) column ts ≡ true → IsSingle (lines (suc m) (content (suc m) us))
single_fits layout m limit column [] [] r h f = tt
single_fits layout m limit column [] (u ∷ us) r h f = absurd r
single_fits layout m limit column (t ∷ ts) [] r h f = absurd r
single_fits layout m limit column (t ∷ ts) (u ∷ us) r h f = go (closing_at (suc m) t) refl r
    (λ s g. single_fits layout m limit (column + (t.space + t.width)) ts us s (tail_same t u ts us h) g)
  where
    n : ℕ
    n = suc m

    head : plain u ≡ plain t
    head = head_same t u ts us h

    go : (b : Bool) → closing_at n t ≡ b
        → Stops b (IsKept n together true t u × ((t.level == m) ≡ false) × Rows m together true ts us)
        → (Rows m together true ts us → fits layout (ends_part m limit) (column + (t.space + t.width)) ts ≡ true
        → IsSingle (lines n (content n us)))
        → IsSingle (lines n (content n (u ∷ us)))
    go true e s others = subst (λ xs. IsSingle (lines n xs))
        (sym (content_ends n u us (closing_same n t u head ∙ e))) tt
    go false e s others =
        let both = fits_step layout m limit column t ts s.1 f in
        subst (λ xs. IsSingle (lines n xs)) (sym (content_goes n u us (closing_same n t u head ∙ e)))
        (single_more n u (content n us) (no_row n t u head both.0
        (λ l i x. s.0 refl l (not_closing (t.level == n) (closes t.role) l e) i x)) (others s.2 both.1))

-- or there is one token at most
abbrev pub FirstLevel : ℕ → List Ahead → Type 0
FirstLevel n [] = Unit {0}
FirstLevel n (t ∷ ts) = t.level ≡ n

-- the first token is the only one in the bracket, or none is
alone : (n : ℕ) (t u : Ahead) (ts : List Ahead) → t.level ≡ n → has_several (t ∷ (u ∷ ts)) ≡ false
    → (closing_at n t ≡ true) ⊎ ((closing_at n t ≡ false) × (closing_at n u ≡ true))
alone n t u ts l h = go t.ends (closes t.role) u.ends (closes u.role) (u.level == t.level) refl refl refl h
  where
    here : (t.level == n) ≡ true
    here = ap (λ k. k == n) l ∙ equal_self n

    closing : (u : Ahead) (a b : Bool) → (u.level == n) ≡ a → closes u.role ≡ b → closing_at n u ≡ (a && b)
    closing u a b e f = ap₂ (λ (x y : Bool). x && y) e f

    go : (x c y d s : Bool) → closes t.role ≡ c → closes u.role ≡ d → (u.level == t.level) ≡ s
        → (x || (not c && (y || not (d && s)))) ≡ false
        → (closing_at n t ≡ true) ⊎ ((closing_at n t ≡ false) × (closing_at n u ≡ true))
    go true c y d s e f g k = absurd (true≢false k)
    go false true y d s e f g k = inl (closing t true true here e)
    go false false true d s e f g k = absurd (true≢false k)
    go false false false true true e f g k = inr (
      closing t true false here e,
      closing u true true (ap (λ m. u.level == m) (sym l) ∙ g) f,
    )
    go false false false true false e f g k = absurd (true≢false k)
    go false false false false s e f g k = absurd (true≢false k)

one_token : (n : ℕ) (t : Ahead) → filter (is_row n) (lines n (t ∷ [])) ≡ []
one_token n t = go (begins_row n t) refl
  where
    go : (b : Bool) → begins_row n t ≡ b → filter (is_row n) (lines n (t ∷ [])) ≡ []
    go true e = ap (filter (is_row n)) (lines_more n t [] true e)
    go false e = ap (filter (is_row n)) (lines_more n t [] false e)

alone_rows : (n : ℕ) (us : List Ahead) → FirstLevel n us → has_several us ≡ false
    → filter (is_row n) (lines n (content n us)) ≡ []
alone_rows n [] f h = refl
alone_rows n (u ∷ []) f h = go (closing_at n u) refl
  where
    go : (b : Bool) → closing_at n u ≡ b → filter (is_row n) (lines n (content n (u ∷ []))) ≡ []
    go true e = ap (λ xs. filter (is_row n) (lines n xs)) (content_ends n u [] e)
    go false e = ap (λ xs. filter (is_row n) (lines n xs)) (content_goes n u [] e) ∙ one_token n u
alone_rows n (u ∷ (v ∷ us)) f h = go (alone n u v us f h)
  where
    go : (closing_at n u ≡ true) ⊎ ((closing_at n u ≡ false) × (closing_at n v ≡ true))
        → filter (is_row n) (lines n (content n (u ∷ (v ∷ us)))) ≡ []
    go (inl e) = ap (λ xs. filter (is_row n) (lines n xs)) (content_ends n u (v ∷ us) e)
    go (inr e) =
        ap (λ xs. filter (is_row n) (lines n xs))
        (content_goes n u (v ∷ us) e.0 ∙ ap (λ xs. u ∷ xs) (content_ends n v us e.1))
        ∙ one_token n u

first_level : (n : ℕ) (ts us : List Ahead) → AreSame ts us → FirstLevel n ts → FirstLevel n us
first_level n [] [] h f = tt
first_level n [] (u ∷ us) h f = absurd cc
first_level n (t ∷ ts) [] h f = tt
first_level n (t ∷ ts) (u ∷ us) h f = ap (λ (x : Ahead). x.level) (head_same t u ts us h) ∙ f

together_keeps : (layout : Layout) (m limit column start : ℕ) (ts us : List Ahead) → Rows m together true ts us
    → AreSame ts us → FirstLevel (suc m) ts
    → (has_several ts && not (fits layout (ends_part m limit) column ts)) ≡ false
    → keeps_rows layout (suc m) start us ≡ false
together_keeps layout m limit column start ts us r h f e = go (has_several ts) refl
  where
    several : has_several us ≡ has_several ts
    several = sym (several_plain us) ∙ ap has_several h ∙ several_plain ts

    fit : (b : Bool) → (b && not (fits layout (ends_part m limit) column ts)) ≡ false → b ≡ true
        → fits layout (ends_part m limit) column ts ≡ true
    fit true k s = not_false (fits layout (ends_part m limit) column ts) k
      where
        not_false : (b : Bool) → not b ≡ false → b ≡ true
        not_false true h = refl
        not_false false h = absurd (true≢false h)
    fit false k s = absurd (true≢false (sym s))

    go : (b : Bool) → has_several ts ≡ b → keeps_rows layout (suc m) start us ≡ false
    go true s = single_keeps layout (suc m) start (lines (suc m) (content (suc m) us))
        (single_fits layout m limit column ts us r h (fit (has_several ts) e s))
    go false s = no_rows layout (suc m) start (lines (suc m) (content (suc m) us))
        (alone_rows (suc m) us (first_level (suc m) ts us h f) (several ∙ s))

-- ---- how the bracket is written

style_by : Bool → Bool → Bool → Style
style_by breaks table rows =
    cond (breaks && table) filled (cond rows as_written (cond breaks item_by_item together))

pub style_again : (layout : Layout) (m limit depth column : ℕ) (ts us : List Ahead) → AreSame ts us
    → FirstLevel (suc m) ts
    → (is_filled (enclosed_by (style_of layout m limit depth column ts)) ≡ false
    → Rows m (style_of layout m limit depth column ts) true ts us)
    → style_of layout m limit depth column us ≡ style_of layout m limit depth column ts
unfolding style_by
style_again layout m limit depth column ts us h f r =
    ap₂ (λ (b t : Bool). style_by b t (keeps_rows layout (suc m) start us)) breaks_same table_same
    ∙ go (breaks ts) (is_table (suc m) ts) (keeps_rows layout (suc m) start ts) refl refl refl
  where
    start : ℕ
    start = line_column layout (suc depth)

    breaks : List Ahead → Bool
    breaks xs = last_passes (λ t. is t.role comma) (content (suc m) xs)
        || (has_several xs && not (fits layout (ends_part m limit) column xs))

    breaks_same : breaks us ≡ breaks ts
    breaks_same = ap₂ (λ (a b : Bool). a || b)
        (sym (comma_plain (suc m) us) ∙ ap (λ xs. last_passes (λ t. is t.role comma) (content (suc m) xs)) h
        ∙ comma_plain (suc m) ts)
        (ap₂ (λ (a b : Bool). a && not b) (sym (several_plain us) ∙ ap has_several h ∙ several_plain ts)
        (sym (fits_plain layout (ends_part m limit) (λ t. refl) column us)
        ∙ ap (fits layout (ends_part m limit) column) h
        ∙ fits_plain layout (ends_part m limit) (λ t. refl) column ts))

    table_same : is_table (suc m) us ≡ is_table (suc m) ts
    table_same = sym (table_plain (suc m) us) ∙ ap (is_table (suc m)) h ∙ table_plain (suc m) ts

    right_of : (a b : Bool) → (a || b) ≡ false → b ≡ false
    right_of true b e = absurd (true≢false e)
    right_of false b e = e

    style : Style
    style = style_of layout m limit depth column ts

    rows_by : (other : Style) → style ≡ other → is_filled (enclosed_by other) ≡ false → Rows m other true ts us
    rows_by other e k = subst (λ s. Rows m s true ts us) e (r (ap (λ s. is_filled (enclosed_by s)) e ∙ k))

    by : (b t k : Bool) → breaks ts ≡ b → is_table (suc m) ts ≡ t → keeps_rows layout (suc m) start ts ≡ k
        → style ≡ style_by b t k
    by b t k x y z = ap₂ (λ (b t : Bool). style_by b t (keeps_rows layout (suc m) start ts)) x y ∙ ap (style_by b t) z

    same : keeps_rows layout (suc m) start us ≡ keeps_rows layout (suc m) start ts
        → style_by (breaks ts) (is_table (suc m) ts) (keeps_rows layout (suc m) start us)
        ≡ style_by (breaks ts) (is_table (suc m) ts) (keeps_rows layout (suc m) start ts)
    same e = ap (style_by (breaks ts) (is_table (suc m) ts)) e

    go : (b t k : Bool) → breaks ts ≡ b → is_table (suc m) ts ≡ t → keeps_rows layout (suc m) start ts ≡ k
        → style_by (breaks ts) (is_table (suc m) ts) (keeps_rows layout (suc m) start us)
        ≡ style_by (breaks ts) (is_table (suc m) ts) (keeps_rows layout (suc m) start ts)
    go true true k x y z = ap₂ (λ (b t : Bool). style_by b t (keeps_rows layout (suc m) start us)) x y
        ∙ sym (ap₂ (λ (b t : Bool). style_by b t (keeps_rows layout (suc m) start ts)) x y)
    go true false true x y z =
        same (written_keeps layout m start ts us (rows_by as_written (by true false true x y z) refl) h)
    go false t true x y z =
        same (written_keeps layout m start ts us (rows_by as_written (by false t true x y z) refl) h)
    go true false false x y z =
        same (item_keeps layout m start ts us (rows_by item_by_item (by true false false x y z) refl) h ∙ sym z)
    go false t false x y z =
        same (together_keeps layout m limit column start ts us (rows_by together (by false t false x y z) refl) h f
        (right_of _ _ x) ∙ sym z)
