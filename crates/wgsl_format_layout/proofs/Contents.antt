-- What is in a bracket that a token opens.
use Rattle.std.proofs.Common.{◌≡◌, ℕ, zero, suc, ◌+◌, ◌-◌, ◌<◌, ◌≤◌, ◌&&◌, ◌||◌, nat_lt, Bool, true, false, cond, refl, sym, ap, ap₂, ◌∙◌, subst, List, [], ◌∷◌, ◌++◌, get_or, drop, length, filter, get_or-drop, arith}
use Rattle.std.specs.List.{list_all, position_or_len}
use Rattle.std.proofs.lemmas.List.{length-take, take-append-drop}
use Rattle.std.proofs.Math.ListN.{drop_of_length-le}
use Rattle.std.proofs.lemmas.Bool.{false≢true}
use Rattle.wgsl_model_tidy.specs.Roles.{Role, opening, template_start, block_start, comma, minus, prefix, is, is_literal, opens}
use Rattle.wgsl_model_tidy.specs.Ahead.{Ahead, content, last_passes, is_plain}
use Rattle.wgsl_format_layout.specs.View.{role_view}
use Rattle.wgsl_format_layout.specs.declared.marks.Mark.{Mark}
use Rattle.wgsl_format_layout.specs.declared.marks.MarkedToken.{MarkedToken}
use Rattle.wgsl_format_layout.specs.Marks.{AreAhead}
use Rattle.wgsl_format_layout.specs.Walks.{Follow}
use Rattle.wgsl_format_layout.proofs.Deeper.{ends_opened}
use Rattle.wgsl_format_layout.proofs.Following.{stands}

pub opens_no_comma : (r : Role) → opens r ≡ true → is r comma ≡ false
opens_no_comma opening h = refl
opens_no_comma template_start h = refl
opens_no_comma block_start h = refl
opens_no_comma r h = absurd (false≢true h)

-- the tokens in it, and those from its end on
abbrev pub beyond : ℕ → List Ahead → List Ahead
beyond n ts = drop (position_or_len (ends_opened n) ts) ts

pub record IsBracket (place : ℕ) (tokens : List MarkedToken) (n : ℕ) (m : MarkedToken) (t : Ahead)
    (ts : List Ahead) : Type 0 where
  pub are : AreAhead m.end (suc place) (drop (suc place) tokens) (content (suc n) ts ++ beyond (suc n) ts)
  pub close : m.close ≡ suc place + length (content (suc n) ts)
  pub role : role_view m.role ≡ t.role
  pub within : m.close ≤ length tokens

pub bracket_at : (d : MarkedToken) (before : Mark) (place : ℕ) (tokens : List MarkedToken) (n : ℕ)
    (t : Ahead) (ts : List Ahead)
    → place < length tokens → Follow before place tokens n (t ∷ ts) → opens t.role ≡ true
    → IsBracket place tokens n (get_or tokens place d) t ts
bracket_at d before place tokens n t ts h f o =
    let s = stands d before place tokens n t ts h f in
    let m = get_or tokens place d in
    let split = take-append-drop (position_or_len (ends_opened (suc n)) ts) ts in
    let close = s.token.close
    ∙ ap₂ (λ (b : Bool) (k : ℕ). place + cond b (suc (length (content (suc k) ts))) 0) o s.level in
    let few = length_content (suc n) ts in
    let count = s.count in
    record {
      are = subst (λ us. AreAhead m.end (suc place) (drop (suc place) tokens) us) (sym split) s.after.are;
      close = omega arith;
      role = s.token.role;
      within = omega arith;
    }
  where
    length_content : (k : ℕ) (us : List Ahead) → length (content k us) ≤ length us
    length_content k us = let e = length-take (position_or_len (ends_opened k) us) us in omega arith

-- ---- the last token in it

last_role : (d : MarkedToken) (before : Mark) (place : ℕ) (ms : List MarkedToken) (x : Ahead) (xs ys : List Ahead)
    → AreAhead before place ms (x ∷ (xs ++ ys))
    → is (role_view (get_or ms (length xs) d).role) comma ≡ last_passes (λ u. is u.role comma) (x ∷ xs)
last_role d before place [] x xs ys are = absurd are
last_role d before place (m ∷ ms) x [] ys are = ap (λ r. is r comma) are.0.role
last_role d before place (m ∷ ms) x (y ∷ xs) ys are = last_role d m.end (suc place) ms y xs ys are.1

pub comma_last : (d : MarkedToken) (before : Mark) (place last : ℕ) (tokens : List MarkedToken)
    (n : ℕ) (t : Ahead) (ts : List Ahead)
    → place < length tokens → Follow before place tokens n (t ∷ ts) → opens t.role ≡ true
    → last ≡ (get_or tokens place d).close - 1
    → is (role_view (get_or tokens last d).role) comma ≡ last_passes (λ u. is u.role comma) (content (suc n) ts)
comma_last d before place last tokens n t ts h f o e =
    let b = bracket_at d before place tokens n t ts h f o in
    go (content (suc n) ts) b.are b.close b.role
  where
    at : ℕ → Bool
    at k = is (role_view (get_or tokens k d).role) comma

    go : (us : List Ahead)
        → AreAhead (get_or tokens place d).end (suc place) (drop (suc place) tokens) (us ++ beyond (suc n) ts)
        → (get_or tokens place d).close ≡ suc place + length us → role_view (get_or tokens place d).role ≡ t.role
        → at last ≡ last_passes (λ u. is u.role comma) us
    go [] are close role =
        let here : last ≡ place = omega arith in
        ap at here ∙ (ap (λ r. is r comma) role ∙ opens_no_comma t.role o)
    go (x ∷ xs) are close role =
        let there : last ≡ suc place + length xs = omega arith in
        ap at there
        ∙ (ap (λ (m : MarkedToken). is (role_view m.role) comma) (sym (get_or-drop (suc place) tokens (length xs) d))
        ∙ last_role d (get_or tokens place d).end (suc place) (drop (suc place) tokens) x xs (beyond (suc n) ts) are)

-- ---- one of them

pub record IsNext (m : MarkedToken) (k : ℕ) (us : List Ahead) : Type 0 where
  pub token : Ahead
  pub is : drop k us ≡ token ∷ drop (suc k) us
  pub role : role_view m.role ≡ token.role

next_in : (d : MarkedToken) (before : Mark) (place : ℕ) (ms : List MarkedToken) (xs ys : List Ahead) (k : ℕ)
    → AreAhead before place ms (xs ++ ys) → k < length xs → IsNext (get_or ms k d) k xs
next_in d before place ms [] ys k are h = absurd (omega arith)
next_in d before place [] (x ∷ xs) ys k are h = absurd are
next_in d before place (m ∷ ms) (x ∷ xs) ys zero are h = record { token = x; is = refl; role = are.0.role }
next_in d before place (m ∷ ms) (x ∷ xs) ys (suc k) are h =
    let r = next_in d m.end (suc place) ms xs ys k are.1 (omega arith) in
    record { token = r.token; is = r.is; role = r.role }

pub next_at : (d : MarkedToken) (before : Mark) (first place : ℕ) (tokens : List MarkedToken)
    (n : ℕ) (t : Ahead) (ts : List Ahead)
    → first < length tokens → Follow before first tokens n (t ∷ ts) → opens t.role ≡ true
    → suc first ≤ place → place < (get_or tokens first d).close
    → IsNext (get_or tokens place d) (place - suc first) (content (suc n) ts)
next_at d before first place tokens n t ts h f o low high =
    let b = bracket_at d before first tokens n t ts h f o in
    let close = b.close in
    let k = place - suc first in
    let at : suc first + k ≡ place = omega arith in
    subst (λ (m : MarkedToken). IsNext m k (content (suc n) ts))
    (get_or-drop (suc first) tokens k d ∙ ap (λ (j : ℕ). get_or tokens j d) at)
    (next_in d (get_or tokens first d).end (suc first) (drop (suc first) tokens) (content (suc n) ts)
    (beyond (suc n) ts) k b.are (omega arith))

-- none is left at its end
pub none_left : (d : MarkedToken) (before : Mark) (first place : ℕ) (tokens : List MarkedToken)
    (n : ℕ) (t : Ahead) (ts : List Ahead)
    → first < length tokens → Follow before first tokens n (t ∷ ts) → opens t.role ≡ true
    → (get_or tokens first d).close ≤ place → drop (place - suc first) (content (suc n) ts) ≡ []
none_left d before first place tokens n t ts h f o far =
    let b = bracket_at d before first tokens n t ts h f o in
    let close = b.close in
    drop_of_length-le (content (suc n) ts) (omega arith)

-- ---- a table, by the tokens from one of them on

-- it is one, after so many commas
abbrev pub is_table_from : ℕ → List Ahead → Bool
is_table_from commas us = list_all is_plain us && nat_lt 15 (commas + length (filter (λ t. is t.role comma) us))

table_not : (commas : ℕ) (t : Ahead) (us : List Ahead) → is_plain t ≡ false → is_table_from commas (t ∷ us) ≡ false
table_not commas t us h =
    ap (λ (c : Bool). (c && list_all is_plain us)
    && nat_lt 15 (commas + length (filter (λ u. is u.role comma) (t ∷ us)))) h

table_next : (commas : ℕ) (t : Ahead) (us : List Ahead) → is_plain t ≡ true
    → is_table_from commas (t ∷ us) ≡ is_table_from (cond (is t.role comma) (commas + 1) commas) us
table_next commas t us h =
    ap (λ (c : Bool). (c && list_all is_plain us)
    && nat_lt 15 (commas + length (filter (λ u. is u.role comma) (t ∷ us)))) h
    ∙ ap (λ (k : ℕ). list_all is_plain us && nat_lt 15 k) (go (is t.role comma))
  where
    go : (b : Bool) → commas + length (cond b (t ∷ filter (λ u. is u.role comma) us) (filter (λ u. is u.role comma) us))
        ≡ cond b (commas + 1) commas + length (filter (λ u. is u.role comma) us)
    go true = omega arith
    go false = refl

-- a token of the code is plain
abbrev pub is_plain_of : MarkedToken → Bool
is_plain_of m = is_literal (role_view m.role)
    || (is (role_view m.role) comma || (is (role_view m.role) minus || is (role_view m.role) prefix))

plain_of : (r other : Role) → r ≡ other
    → (is_literal r || (is r comma || (is r minus || is r prefix)))
    ≡ (is_literal other || (is other comma || (is other minus || is other prefix)))
plain_of r other h = ap (λ (q : Role). is_literal q || (is q comma || (is q minus || is q prefix))) h

pub table_fails : (m : MarkedToken) (k commas : ℕ) (us : List Ahead) → IsNext m k us → is_plain_of m ≡ false
    → is_table_from commas (drop k us) ≡ false
table_fails m k commas us next h =
    ap (is_table_from commas) next.is
    ∙ table_not commas next.token (drop (suc k) us) (plain_of next.token.role (role_view m.role) (sym next.role) ∙ h)

pub table_goes_on : (m : MarkedToken) (k commas : ℕ) (us : List Ahead) → IsNext m k us
    → is_plain_of m ≡ true
    → is_table_from commas (drop k us)
    ≡ is_table_from (cond (is (role_view m.role) comma) (commas + 1) commas) (drop (suc k) us)
table_goes_on m k commas us next h =
    ap (is_table_from commas) next.is
    ∙ (table_next commas next.token (drop (suc k) us) (plain_of next.token.role (role_view m.role) (sym next.role) ∙ h)
    ∙ ap (λ (r : Role). is_table_from (cond (is r comma) (commas + 1) commas) (drop (suc k) us)) (sym next.role))

pub table_ends : (k commas : ℕ) (us : List Ahead) → drop k us ≡ [] → is_table_from commas (drop k us) ≡ nat_lt 15 commas
table_ends k commas us h = let e : commas + 0 ≡ commas = omega arith in ap (is_table_from commas) h ∙ ap (nat_lt 15) e
