-- The walk over the rows of a bracket.
use Rattle.std.proofs.Common.{◌≡◌, ℕ, suc, ◌+◌, ◌-◌, ◌<◌, ◌≤◌, ◌==◌, ◌&&◌, ◌||◌, not, nat_lt, Bool, true, false, cond, refl, sym, ap, ap₂, ◌∙◌, subst, List, [], ◌∷◌, ◌++◌, append_assoc, get_or, take, length, length-append, arith}
use Rattle.std.specs.List.{list_any, before_first, position_or_len}
use Rattle.std.proofs.lemmas.Bool.{false≢true}
use Rattle.std.proofs.lemmas.Bool.Decides.{nat_tests}
use Rattle.std.proofs.lemmas.List.{append-nil}
use Rattle.wgsl_model_tidy.specs.Layout.{Layout}
use Rattle.wgsl_model_tidy.specs.Roles.{closes, opens}
use Rattle.wgsl_model_tidy.specs.Ahead.{Ahead, at_front, fits, never, is_row, keeps_rows}
use Rattle.wgsl_format_layout.specs.declared.marks.Mark.{Mark}
use Rattle.wgsl_format_layout.specs.declared.marks.MarkedToken.{MarkedToken}
use Rattle.wgsl_format_layout.specs.Marks.{level_after}
use Rattle.wgsl_format_layout.specs.Walks.{are_deeper, Follow, GoesPast}
use Rattle.wgsl_format_layout.proofs.Deeper.{AsksFor, both, before_at, before_past, position_at, before_deeper, position_past, position_deeper, any_deeper, ends_opened}
use Rattle.wgsl_format_layout.proofs.Following.{stands, some_follow}
use Rattle.wgsl_format_layout.proofs.Reaching.{level_asks, level_here}
use Rattle.wgsl_format_layout.proofs.Contents.{bracket_at}
use Rattle.wgsl_format_layout.proofs.Rows.{begins_at, row_ok, row_count, rows_from, keeps_rows_is}

length_before : (test : Ahead → Bool) (ts : List Ahead) → length (before_first test ts) ≡ position_or_len test ts
length_before test [] = refl
length_before test (t ∷ ts) = go (test t) refl (length_before test ts)
  where
    go : (b : Bool) → test t ≡ b → length (before_first test ts) ≡ position_or_len test ts
        → length (before_first test (t ∷ ts)) ≡ position_or_len test (t ∷ ts)
    go true e ih = ap length (before_at test t ts e) ∙ sym (position_at test t ts e)
    go false e ih = ap length (before_past test t ts e) ∙ (ap suc ih ∙ sym (position_past test t ts e))

pub none_before : (test : Ahead → Bool) (ts : List Ahead) → position_or_len test ts ≡ 0 → before_first test ts ≡ []
none_before test ts h = ap (λ k. take k ts) h

begins_asks : (n : ℕ) → AsksFor n (begins_at n)
begins_asks n = level_asks n (λ t. t.item && (t.below || t.ends))

rows_deeper : (layout : Layout) (n column rows : ℕ) (row xs ys : List Ahead) → are_deeper n xs ≡ true
    → rows_from layout n column rows row (xs ++ ys) ≡ rows_from layout n column rows (row ++ xs) ys
rows_deeper layout n column rows row [] ys h =
    ap (λ us. rows_from layout n column rows us ys) (sym (append-nil row))
rows_deeper layout n column rows row (x ∷ xs) ys h =
    let d = both (nat_lt n x.level) (are_deeper n xs) h in
    ap (λ (b : Bool). cond b (row_ok layout n column row
    && rows_from layout n column (rows + row_count n row) (x ∷ []) (xs ++ ys))
    (rows_from layout n column rows (row ++ (x ∷ [])) (xs ++ ys))) (begins_asks n x d.0)
    ∙ (rows_deeper layout n column rows (row ++ (x ∷ [])) xs ys d.1
    ∙ ap (λ us. rows_from layout n column rows us ys) (append_assoc row (x ∷ []) xs))

-- a walk is at a place, in a line of which these are the tokens up to there
pub record RowsAt (layout : Layout) (n column close : ℕ) (tokens : List MarkedToken) (whole : Bool)
    (rows first : ℕ) (is_several : Bool) (place : ℕ) : Type 0 where
  pub row : List Ahead
  pub next : List Ahead
  pub start : Mark
  pub level : ℕ
  pub before : Mark
  pub stands : place ≡ first + length row
  pub row_follow : Follow start first tokens level (row ++ next)
  pub follow : Follow before place tokens n next
  pub ends : place + position_or_len (ends_opened n) next ≡ close
  pub several : is_row n row ≡ is_several
  pub value : rows_from layout n column rows row (before_first (ends_opened n) next) ≡ whole

pub rows_first : (d : MarkedToken) (layout : Layout) (column : ℕ) (before : Mark)
    (opening place : ℕ) (tokens : List MarkedToken) (n : ℕ) (t : Ahead) (ts : List Ahead)
    → opening < length tokens → Follow before opening tokens n (t ∷ ts) → opens t.role ≡ true
    → place ≡ suc opening
    → RowsAt layout (suc n) column (get_or tokens opening d).close tokens
    (keeps_rows layout (suc n) column ts) 0 place false place
rows_first d layout column before opening place tokens n t ts h f o e =
    let s = stands d before opening tokens n t ts h f in
    let b = bracket_at d before opening tokens n t ts h f o in
    let m = get_or tokens opening d in
    let level : level_after n t.role ≡ suc n = ap (λ (c : Bool). cond c (suc n) (cond (closes t.role) (n - 1) n)) o in
    let follow = subst (λ (k : ℕ). Follow m.end k tokens (suc n) ts) (sym e)
    (subst (λ (k : ℕ). Follow m.end (suc opening) tokens k ts) level s.after) in
    let many = length_before (ends_opened (suc n)) ts in
    let close = b.close in
    record {
      row = [];
      next = ts;
      start = m.end;
      level = suc n;
      before = m.end;
      stands = omega arith;
      row_follow = follow;
      follow = follow;
      ends = omega arith;
      several = refl;
      value = keeps_rows_is layout (suc n) column ts;
    }

-- ---- at a token

-- what is known there: it is the next one, and does not end the bracket
record Next (layout : Layout) (n column place : ℕ) (whole : Bool) (rows : ℕ) (row : List Ahead)
    (tokens : List MarkedToken) (m : MarkedToken) (next : List Ahead) : Type 0 where
  token : Ahead
  after : List Ahead
  is : next ≡ token ∷ after
  plain : closes token.role ≡ false
  goes : ends_opened n token ≡ false
  begins : begins_at n token ≡ (m.item && (m.before.below || m.before.ends))
  item : (token.level == n && token.item) ≡ m.item
  value : cond (begins_at n token)
      (row_ok layout n column row && rows_from layout n column (rows + row_count n row) (token ∷ [])
      (before_first (ends_opened n) after))
      (rows_from layout n column rows (row ++ (token ∷ [])) (before_first (ends_opened n) after)) ≡ whole

next_at : (d : MarkedToken) (layout : Layout) (n column place close : ℕ) (whole : Bool) (rows : ℕ)
    (row : List Ahead) (before : Mark) (tokens : List MarkedToken) (next : List Ahead)
    → place < length tokens → place < close → Follow before place tokens n next
    → place + position_or_len (ends_opened n) next ≡ close
    → rows_from layout n column rows row (before_first (ends_opened n) next) ≡ whole
    → Next layout n column place whole rows row tokens (get_or tokens place d) next
next_at d layout n column place close whole rows row before tokens [] h low f at value =
    absurd (some_follow before place tokens n h f)
next_at d layout n column place close whole rows row before tokens (t ∷ us) h low f at value =
    let s = stands d before place tokens n t us h f in
    let m = get_or tokens place d in
    let goes = goes_on (ends_opened n t) refl in
    let level : (t.level == n) ≡ true = (let l = s.level in grind (arith, nat_tests)) in
    record {
      token = t;
      after = us;
      is = refl;
      plain = sym (ap (λ (b : Bool). b && closes t.role) level) ∙ goes;
      goes = goes;
      begins = level_here n t.level (t.item && (t.below || t.ends)) s.level
          ∙ (ap₂ (λ (a b : Bool). a && (b || t.ends)) (sym s.token.item) (sym s.token.below)
          ∙ ap (λ (b : Bool). m.item && (m.before.below || b)) (sym s.token.ends));
      item = level_here n t.level t.item s.level ∙ sym s.token.item;
      value = ap (rows_from layout n column rows row) (sym (before_past (ends_opened n) t us goes)) ∙ value;
    }
  where
    goes_on : (b : Bool) → ends_opened n t ≡ b → ends_opened n t ≡ false
    goes_on true e = let zero = position_at (ends_opened n) t us e in absurd (omega arith)
    goes_on false e = e

-- ---- past it

or_false : (b : Bool) → (b || false) ≡ b
or_false true = refl
or_false false = refl

or_assoc : (a b c : Bool) → (a || (b || c)) ≡ ((a || b) || c)
or_assoc true b c = refl
or_assoc false b c = refl

no_item : (n : ℕ) (xs : List Ahead) → are_deeper n xs ≡ true → list_any (λ u. u.level == n && u.item) xs ≡ false
no_item n xs h = ap (list_any (λ u. u.level == n && u.item)) (sym (append-nil xs))
    ∙ any_deeper n (λ u. u.level == n && u.item) (level_asks n (λ u. u.item)) xs [] h

any_item_more : (n : ℕ) (us : List Ahead) (t : Ahead) (xs : List Ahead) → are_deeper n xs ≡ true
    → list_any (λ u. u.level == n && u.item) (us ++ (t ∷ xs))
    ≡ (list_any (λ u. u.level == n && u.item) us || (t.level == n && t.item))
any_item_more n [] t xs h =
    ap (λ (b : Bool). (t.level == n && t.item) || b) (no_item n xs h) ∙ or_false (t.level == n && t.item)
any_item_more n (u ∷ us) t xs h =
    ap (λ (b : Bool). (u.level == n && u.item) || b) (any_item_more n us t xs h)
    ∙ or_assoc (u.level == n && u.item) (list_any (λ v. v.level == n && v.item) us) (t.level == n && t.item)

is_row_more : (n : ℕ) (row : List Ahead) (t : Ahead) (xs : List Ahead) → are_deeper n xs ≡ true
    → is_row n (row ++ (t ∷ xs)) ≡ (is_row n row || ((t.level == n && t.item) && nat_lt 0 (length row)))
is_row_more n [] t xs h =
    no_item n xs h ∙ sym (never (t.level == n && t.item))
  where
    never : (b : Bool) → (b && nat_lt 0 0) ≡ false
    never true = refl
    never false = refl
is_row_more n (r ∷ rs) t xs h =
    any_item_more n rs t xs h
    ∙ ap (λ (b : Bool). list_any (λ u. u.level == n && u.item) rs || b) (sym (always (t.level == n && t.item)))
  where
    always : (b : Bool) → (b && nat_lt 0 (suc (length rs))) ≡ b
    always false = refl
    always true = let e : 0 < suc (length rs) = omega arith in grind (arith, nat_tests)

bracket_asks : (n : ℕ) → AsksFor n (ends_opened n)
bracket_asks n = level_asks n (λ t. closes t.role)

-- the rest of what is in the bracket
rest_deeper : (n : ℕ) (us xs ys : List Ahead) → us ≡ xs ++ ys → are_deeper n xs ≡ true
    → before_first (ends_opened n) us ≡ xs ++ before_first (ends_opened n) ys
rest_deeper n us xs ys is h = ap (before_first (ends_opened n)) is
    ∙ before_deeper n (ends_opened n) (bracket_asks n) xs ys h

ends_past : (n place close to : ℕ) (all us xs ys : List Ahead) (t : Ahead) → all ≡ t ∷ us → us ≡ xs ++ ys
    → are_deeper n xs ≡ true → ends_opened n t ≡ false → place + position_or_len (ends_opened n) all ≡ close
    → to ≡ suc place + length xs → to + position_or_len (ends_opened n) ys ≡ close
ends_past n place close to all us xs ys t is parts h goes at stands =
    let one = ap (position_or_len (ends_opened n)) is ∙ position_past (ends_opened n) t us goes in
    let two = ap (position_or_len (ends_opened n)) parts ∙ position_deeper n (ends_opened n) (bracket_asks n) xs ys h in
    omega arith

ok_is : (layout : Layout) (n column : ℕ) (row : List Ahead) (is_several b : Bool) → is_row n row ≡ is_several
    → (not is_several || fits layout never column (at_front row)) ≡ b → row_ok layout n column row ≡ b
ok_is layout n column row is_several b is h = ap (λ (c : Bool). not c || fits layout never column (at_front row)) is ∙ h

-- the code finds a line, or goes on with one
pub rows_begin : (d : MarkedToken) (layout : Layout) (n column close : ℕ) (tokens : List MarkedToken)
    (whole : Bool) (rows first count : ℕ) (is_several : Bool) (place to : ℕ)
    → place < length tokens → place < close
    → ((get_or tokens place d).item
    && ((get_or tokens place d).before.below || (get_or tokens place d).before.ends)) ≡ true
    → count ≡ cond is_several 1 0
    → ((before : Mark) (k : ℕ) (t : Ahead) (us : List Ahead) → Follow before place tokens k (t ∷ us)
    → closes t.role ≡ false → GoesPast place tokens k us to)
    → (r : RowsAt layout n column close tokens whole rows first is_several place)
    → (not is_several || fits layout never column (at_front r.row)) ≡ true
    → RowsAt layout n column close tokens whole (rows + count) place false to
rows_begin d layout n column close tokens whole rows first count is_several place to h low begins
    counted past r fits_here =
    let next = next_at d layout n column place close whole rows r.row r.before tokens r.next h low
    r.follow r.ends r.value in
    let t = next.token in
    let follow = subst (λ us. Follow r.before place tokens n us) next.is r.follow in
    let g = past r.before n t next.after follow next.plain in
    let stands = g.stands in
    let rest = before_first (ends_opened n) next.after in
    record {
      row = t ∷ g.opened;
      next = g.next;
      start = r.before;
      level = n;
      before = g.before;
      stands = omega arith;
      row_follow = subst (λ us. Follow r.before place tokens n us) (ap (λ us. t ∷ us) g.is) follow;
      follow = g.follow;
      ends = ends_past n place close to r.next next.after g.opened g.next t next.is g.is g.deeper
          next.goes r.ends g.stands;
      several = no_item n g.opened g.deeper;
      value = sym (rows_deeper layout n column (rows + count) (t ∷ []) g.opened
          (before_first (ends_opened n) g.next) g.deeper)
          ∙ (ap (rows_from layout n column (rows + count) (t ∷ []))
          (sym (rest_deeper n next.after g.opened g.next g.is g.deeper))
          ∙ (ap (λ (k : ℕ). rows_from layout n column (rows + k) (t ∷ []) rest)
          (counted ∙ sym (ap (λ (b : Bool). cond b 1 0) r.several))
          ∙ (sym (ap₂ (λ (a b : Bool). cond a (b && rows_from layout n column (rows + row_count n r.row) (t ∷ []) rest)
          (rows_from layout n column rows (r.row ++ (t ∷ [])) rest)) (next.begins ∙ begins)
          (ok_is layout n column r.row is_several true r.several fits_here)) ∙ next.value)));
    }

pub rows_fail : (d : MarkedToken) (layout : Layout) (n column close : ℕ) (tokens : List MarkedToken)
    (whole : Bool) (rows first : ℕ) (is_several : Bool) (place : ℕ)
    → place < length tokens → place < close
    → ((get_or tokens place d).item
    && ((get_or tokens place d).before.below || (get_or tokens place d).before.ends)) ≡ true
    → (r : RowsAt layout n column close tokens whole rows first is_several place)
    → (not is_several || fits layout never column (at_front r.row)) ≡ false
    → false ≡ whole
rows_fail d layout n column close tokens whole rows first is_several place h low begins r fits_here =
    let next = next_at d layout n column place close whole rows r.row r.before tokens r.next h low
    r.follow r.ends r.value in
    let rest = before_first (ends_opened n) next.after in
    sym (ap₂ (λ (a b : Bool). cond a (b && rows_from layout n column (rows + row_count n r.row) (next.token ∷ []) rest)
    (rows_from layout n column rows (r.row ++ (next.token ∷ [])) rest)) (next.begins ∙ begins)
    (ok_is layout n column r.row is_several false r.several fits_here)) ∙ next.value

less_same : (a b c : ℕ) → b ≡ a + c → nat_lt 0 c ≡ nat_lt a b
less_same a b c h = go (nat_lt 0 c) (nat_lt a b) refl refl
  where
    go : (x y : Bool) → nat_lt 0 c ≡ x → nat_lt a b ≡ y → x ≡ y
    go true true p q = refl
    go false false p q = refl
    go true false p q =
        let less : 0 < c = grind (arith, nat_tests) in
        let more : b ≤ a = grind (arith, nat_tests) in absurd (omega arith)
    go false true p q =
        let none : c ≤ 0 = grind (arith, nat_tests) in
        let less : a < b = grind (arith, nat_tests) in absurd (omega arith)

pub rows_go_on : (d : MarkedToken) (layout : Layout) (n column close : ℕ)
    (tokens : List MarkedToken) (whole : Bool) (rows first : ℕ) (is_several : Bool) (place to : ℕ)
    → place < length tokens → place < close
    → ((get_or tokens place d).item
    && ((get_or tokens place d).before.below || (get_or tokens place d).before.ends)) ≡ false
    → ((before : Mark) (k : ℕ) (t : Ahead) (us : List Ahead) → Follow before place tokens k (t ∷ us)
    → closes t.role ≡ false → GoesPast place tokens k us to)
    → RowsAt layout n column close tokens whole rows first is_several place
    → RowsAt layout n column close tokens whole rows first
    (is_several || ((get_or tokens place d).item && nat_lt first place)) to
rows_go_on d layout n column close tokens whole rows first is_several place to h low begins past r =
    let next = next_at d layout n column place close whole rows r.row r.before tokens r.next h low
    r.follow r.ends r.value in
    let t = next.token in
    let follow = subst (λ us. Follow r.before place tokens n us) next.is r.follow in
    let g = past r.before n t next.after follow next.plain in
    let at = r.stands in let stands = g.stands in
    let rest = before_first (ends_opened n) next.after in
    let many = length-append r.row (t ∷ g.opened) in
    record {
      row = r.row ++ (t ∷ g.opened);
      next = g.next;
      start = r.start;
      level = r.level;
      before = g.before;
      stands = omega arith;
      row_follow = subst (λ us. Follow r.start first tokens r.level us)
          (ap (λ us. r.row ++ us) (next.is ∙ ap (λ us. t ∷ us) g.is)
          ∙ sym (append_assoc r.row (t ∷ g.opened) g.next)) r.row_follow;
      follow = g.follow;
      ends = ends_past n place close to r.next next.after g.opened g.next t next.is g.is g.deeper
          next.goes r.ends g.stands;
      several = is_row_more n r.row t g.opened g.deeper
          ∙ ap₂ (λ (a b : Bool). a || b) r.several
          (ap₂ (λ (a b : Bool). a && b) next.item (less_same first place (length r.row) r.stands));
      value = ap (λ us. rows_from layout n column rows us (before_first (ends_opened n) g.next))
          (sym (append_assoc r.row (t ∷ []) g.opened))
          ∙ (sym (rows_deeper layout n column rows (r.row ++ (t ∷ [])) g.opened
          (before_first (ends_opened n) g.next) g.deeper)
          ∙ (ap (rows_from layout n column rows (r.row ++ (t ∷ [])))
          (sym (rest_deeper n next.after g.opened g.next g.is g.deeper))
          ∙ (sym (ap (λ (a : Bool). cond a (row_ok layout n column r.row
          && rows_from layout n column (rows + row_count n r.row) (t ∷ []) rest)
          (rows_from layout n column rows (r.row ++ (t ∷ [])) rest)) (next.begins ∙ begins)) ∙ next.value)));
    }

-- the bracket ends
pub record RowsEnd (layout : Layout) (n column close : ℕ) (whole : Bool) (rows first count : ℕ)
    (is_several : Bool) (row : List Ahead) : Type 0 where
  pub stands : close ≡ first + length row
  pub value : ((not is_several || fits layout never column (at_front row)) && nat_lt 1 (rows + count)) ≡ whole

pub rows_end : (layout : Layout) (n column close : ℕ) (tokens : List MarkedToken) (whole : Bool)
    (rows first count : ℕ) (is_several : Bool) (place : ℕ)
    → close ≤ place → count ≡ cond is_several 1 0
    → (r : RowsAt layout n column close tokens whole rows first is_several place)
    → RowsEnd layout n column close whole rows first count is_several r.row
rows_end layout n column close tokens whole rows first count is_several place far counted r =
    let at = r.ends in let stands = r.stands in
    let none : position_or_len (ends_opened n) r.next ≡ 0 = omega arith in
    record {
      stands = omega arith;
      value = ap₂ (λ (b : Bool) (k : ℕ). (not b || fits layout never column (at_front r.row)) && nat_lt 1 (rows + k))
          (sym r.several) (counted ∙ sym (ap (λ (b : Bool). cond b 1 0) r.several))
          ∙ (ap (rows_from layout n column rows r.row) (sym (none_before (ends_opened n) r.next none)) ∙ r.value);
    }

pub rows_same : (layout : Layout) (n column close : ℕ) (tokens : List MarkedToken) (whole : Bool)
    (rows first : ℕ) (is_several : Bool) (place rows' first' : ℕ) (is_several' : Bool)
    → rows' ≡ rows → first' ≡ first → is_several' ≡ is_several
    → RowsAt layout n column close tokens whole rows first is_several place
    → RowsAt layout n column close tokens whole rows' first' is_several' place
rows_same layout n column close tokens whole rows first is_several place rows' first' is_several' a b c r =
    subst (λ (k : ℕ). RowsAt layout n column close tokens whole k first' is_several' place) (sym a)
    (subst (λ (k : ℕ). RowsAt layout n column close tokens whole rows k is_several' place) (sym b)
    (subst (λ (k : Bool). RowsAt layout n column close tokens whole rows first k place) (sym c) r))

pub one_most : (b : Bool) → cond b 1 0 ≤ 1
one_most true = omega arith
one_most false = omega arith

pub row_before : (a item b : Bool) (first first' place close to : ℕ) → first' ≡ first
    → b ≡ (a || (item && nat_lt first place))
    → (a ≡ true → (first < place) × (first < close)) → place < close → place < to → b ≡ true
    → (first' < to) × (first' < close)
row_before true item b first first' place close to same is known low high h =
    let k = known refl in (omega arith, omega arith)
row_before false true b first first' place close to same is known low high h =
    let e = sym is ∙ h in let less : first < place = grind (arith, nat_tests) in (omega arith, omega arith)
row_before false false b first first' place close to same is known low high h = absurd (false≢true (sym is ∙ h))
