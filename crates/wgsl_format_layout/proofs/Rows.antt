-- The rows of a bracket, by one walk over its tokens.
use Rattle.std.proofs.Common.{◌≡◌, ℕ, suc, ◌+◌, ◌-◌, ◌<◌, ◌≤◌, ◌==◌, ◌&&◌, ◌||◌, not, nat_lt, Bool, true, false, cond, refl, sym, ap, ap₂, ◌∙◌, subst, List, [], ◌∷◌, ◌++◌, append_assoc, filter, get_or, drop, drop-cons, length, arith}
use Rattle.std.specs.List.{list_all}
use Rattle.std.proofs.lemmas.List.{append-nil}
use Rattle.wgsl_model_tidy.specs.Layout.{Layout}
use Rattle.wgsl_model_tidy.specs.Ahead.{Ahead, at_front, fits, never, content, in_first, lines, is_row, keeps_rows}
use Rattle.wgsl_format_layout.specs.declared.marks.Mark.{Mark}
use Rattle.wgsl_format_layout.specs.declared.marks.MarkedToken.{MarkedToken}
use Rattle.wgsl_format_layout.specs.Walks.{Follow, EndsLine}
use Rattle.wgsl_format_layout.proofs.Following.{mark_after, stands}
use Rattle.wgsl_format_layout.proofs.LineEnds.{line_more, mark_before}
use Rattle.wgsl_format_layout.proofs.LastOperands.{line_never}

-- ---- the walk

-- a line of the author's begins with a token, and an item
abbrev pub begins_at : ℕ → Ahead → Bool
begins_at n t = t.level == n && (t.item && (t.below || t.ends))

-- a line is no row, or fits
abbrev pub row_ok : Layout → ℕ → ℕ → List Ahead → Bool
row_ok layout n column row = not (is_row n row) || fits layout never column (at_front row)

abbrev pub row_count : ℕ → List Ahead → ℕ
row_count n row = cond (is_row n row) 1 0

-- with so many rows before a line that goes on with these tokens
abbrev pub rows_from : Layout → ℕ → ℕ → ℕ → List Ahead → List Ahead → Bool
rows_from layout n column rows row [] = row_ok layout n column row && nat_lt 1 (rows + row_count n row)
rows_from layout n column rows row (t ∷ ts) =
    cond (begins_at n t) (row_ok layout n column row && rows_from layout n column (rows + row_count n row) (t ∷ []) ts)
    (rows_from layout n column rows (row ++ (t ∷ [])) ts)

-- ---- it finds the lines

-- lines with these tokens before the first
abbrev onto : List Ahead → List (List Ahead) → List (List Ahead)
onto row [] = row ∷ []
onto row (line ∷ lines) = (row ++ line) ∷ lines

abbrev all_fit : Layout → ℕ → List (List Ahead) → Bool
all_fit layout column rows = list_all (λ row. fits layout never column (at_front row)) rows

in_first_onto : (t : Ahead) (ls : List (List Ahead)) → in_first t ls ≡ onto (t ∷ []) ls
in_first_onto t [] = refl
in_first_onto t (l ∷ ls) = refl

onto_onto : (row : List Ahead) (t : Ahead) (ls : List (List Ahead))
    → onto row (onto (t ∷ []) ls) ≡ onto (row ++ (t ∷ [])) ls
onto_onto row t [] = refl
onto_onto row t (l ∷ ls) = ap (λ line. line ∷ ls) (sym (append_assoc row (t ∷ []) l))

-- what the rest of the lines are, after so many rows
abbrev kept : Layout → ℕ → ℕ → ℕ → List (List Ahead) → Bool
kept layout n column rows ls =
    nat_lt 1 (rows + length (filter (is_row n) ls)) && all_fit layout column (filter (is_row n) ls)

swap : (a b c : Bool) → (a && (b && c)) ≡ (b && (a && c))
swap true b c = refl
swap false true c = refl
swap false false c = refl

kept_next : (layout : Layout) (n column rows : ℕ) (row : List Ahead) (ls : List (List Ahead))
    → kept layout n column rows (row ∷ ls)
    ≡ (row_ok layout n column row && kept layout n column (rows + row_count n row) ls)
kept_next layout n column rows row ls = go (is_row n row)
  where
    go : (b : Bool)
        → (nat_lt 1 (rows + length (cond b (row ∷ filter (is_row n) ls) (filter (is_row n) ls)))
        && list_all (λ r. fits layout never column (at_front r))
        (cond b (row ∷ filter (is_row n) ls) (filter (is_row n) ls)))
        ≡ ((not b || fits layout never column (at_front row))
        && (nat_lt 1 (rows + cond b 1 0 + length (filter (is_row n) ls))
        && list_all (λ r. fits layout never column (at_front r)) (filter (is_row n) ls)))
    go true =
        let k = length (filter (is_row n) ls) in
        let e : rows + suc k ≡ rows + 1 + k = omega arith in
        ap (λ (m : ℕ). nat_lt 1 m && (fits layout never column (at_front row)
        && list_all (λ r. fits layout never column (at_front r)) (filter (is_row n) ls))) e
        ∙ swap (nat_lt 1 (rows + 1 + k)) (fits layout never column (at_front row))
        (list_all (λ r. fits layout never column (at_front r)) (filter (is_row n) ls))
    go false =
        let k = length (filter (is_row n) ls) in
        let e : rows + k ≡ rows + 0 + k = omega arith in
        ap (λ (m : ℕ). nat_lt 1 m && list_all (λ r. fits layout never column (at_front r)) (filter (is_row n) ls)) e

and_swap : (layout : Layout) (n column rows : ℕ) (ok : Bool)
    → (ok && nat_lt 1 rows) ≡ (ok && kept layout n column rows [])
and_swap layout n column rows ok =
    let e : rows ≡ rows + 0 = omega arith in
    ap (λ (b : Bool). ok && b) (ap (nat_lt 1) e ∙ sym (and_true (nat_lt 1 (rows + 0))))
  where
    and_true : (b : Bool) → (b && true) ≡ b
    and_true true = refl
    and_true false = refl

rows_kept : (layout : Layout) (n column rows : ℕ) (row us : List Ahead)
    → rows_from layout n column rows row us ≡ kept layout n column rows (onto row (lines n us))
rows_kept layout n column rows row [] =
    and_swap layout n column (rows + row_count n row) (row_ok layout n column row)
    ∙ sym (kept_next layout n column rows row [])
rows_kept layout n column rows row (t ∷ us) = go (begins_at n t)
    (rows_kept layout n column (rows + row_count n row) (t ∷ []) us)
    (rows_kept layout n column rows (row ++ (t ∷ [])) us)
  where
    go : (b : Bool)
        → rows_from layout n column (rows + row_count n row) (t ∷ []) us
        ≡ kept layout n column (rows + row_count n row) (onto (t ∷ []) (lines n us))
        → rows_from layout n column rows (row ++ (t ∷ [])) us
        ≡ kept layout n column rows (onto (row ++ (t ∷ [])) (lines n us))
        → cond b (row_ok layout n column row && rows_from layout n column (rows + row_count n row) (t ∷ []) us)
        (rows_from layout n column rows (row ++ (t ∷ [])) us)
        ≡ kept layout n column rows (onto row (cond b ([] ∷ in_first t (lines n us)) (in_first t (lines n us))))
    go true ih _ =
        ap (λ (b : Bool). row_ok layout n column row && b) ih
        ∙ (sym (kept_next layout n column rows row (onto (t ∷ []) (lines n us)))
        ∙ ap₂ (λ (l : List Ahead) (ls : List (List Ahead)). kept layout n column rows (l ∷ ls))
        (sym (append-nil row)) (sym (in_first_onto t (lines n us))))
    go false _ ih = ih ∙ ap (kept layout n column rows)
        (sym (ap (onto row) (in_first_onto t (lines n us)) ∙ onto_onto row t (lines n us)))

onto_none : (ls : List (List Ahead)) → (layout : Layout) (n column : ℕ)
    → kept layout n column 0 (onto [] ls) ≡ kept layout n column 0 ls
onto_none [] layout n column = refl
onto_none (l ∷ ls) layout n column = refl

pub keeps_rows_is : (layout : Layout) (n column : ℕ) (ts : List Ahead)
    → rows_from layout n column 0 [] (content n ts) ≡ keeps_rows layout n column ts
keeps_rows_is layout n column ts =
    rows_kept layout n column 0 [] (content n ts)
    ∙ (onto_none (lines n (content n ts)) layout n column ∙ ap (λ (k : ℕ). nat_lt 1 k
    && all_fit layout column (filter (is_row n) (lines n (content n ts)))) zero_more)
  where
    zero_more : 0 + length (filter (is_row n) (lines n (content n ts)))
        ≡ length (filter (is_row n) (lines n (content n ts)))
    zero_more = omega arith

-- ---- by the marks of the tokens

pub row_line : (d : MarkedToken) (before start : Mark) (first end : ℕ) (tokens : List MarkedToken)
    (n : ℕ) (us vs : List Ahead)
    → Follow before first tokens n (us ++ vs) → end ≡ first + length us → first < end → end ≤ length tokens
    → start.column ≡ (get_or tokens first d).end.column - (get_or tokens first d).width
    → start.breaks ≡ (get_or tokens first d).end.breaks
    → EndsLine never start (at_front us) (get_or tokens (end - 1) d).end
row_line d before start first end tokens n [] vs f e low high column breaks = absurd (omega arith)
row_line d before start first end tokens n (u ∷ us) vs f e low high column breaks =
    let m = get_or tokens first d in
    let s = stands d before first tokens n u (us ++ vs) (omega arith) f in
    let line = line_never m.end (suc first) (drop (suc first) tokens) us vs s.after.are in
    let many : suc (length us) ≡ end - first = omega arith in
    let there = ap (λ ms. mark_after before ms (suc (length us))) (sym (drop-cons tokens first d (omega arith)))
    ∙ (ap (mark_after before (drop first tokens)) many ∙ mark_before d before first end tokens low high) in
    let columns = s.token.column in let width = s.token.width in
    line_more never start m.end (get_or tokens (end - 1) d).end (record u { space = 0; ends = false }) us refl
    (omega arith) (omega arith) (subst (EndsLine never m.end us) there line)
