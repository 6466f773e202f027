-- From where a line begins, the position and the offset are those in what is left of the text.
use Rattle.std.proofs.Common.{◌≡◌, refl, ap, sym, ◌∙◌, subst, ℕ, zero, suc, ◌+◌, ◌-◌, ◌<◌, ◌≤◌, Bool, true, false, cond, List, [], ◌∷◌, length, take, drop, get_or, slice_index, Option, Some, None, arith}
use Rattle.std.proofs.lemmas.Bool.{cond-true, cond-false}
use Rattle.std.proofs.lemmas.List.{drop_all, take_all, length-drop, get_or-drop}
use Rattle.std.proofs.Math.Seq.{drop-cons}
use Rattle.std.specs.Option.{option_map}
use Rattle.std.specs.Str.{IsCharBoundary}
use Rattle.wgsl_server_text.specs.Lines.{ends_line, starts_from, line_starts}
use Rattle.wgsl_server_text.specs.Positions.{units, after, position_from, position_at, bytes_before, offset_from}
use Rattle.wgsl_server_text.specs.declared.encoding.PositionEncoding.{PositionEncoding}
use Rattle.wgsl_server_text.specs.declared.position.Position.{Position}

abbrev pub place : ℕ → ℕ → Position
place line character = record { line = line; character = character }

-- the first character of a line
abbrev pub first_of : ℕ → Position
first_of line = place line 0

-- after a byte that ends a line, and after another one
pub after_end : (e : PositionEncoding) (p : Position) (b : ℕ) (bs : List ℕ) → ends_line b bs ≡ true
    → after e p b bs ≡ first_of (suc p.line)
after_end e p b bs holds =
    cond-true (ends_line b bs) (first_of (suc p.line)) (place p.line (p.character + units e b)) holds

pub after_within : (e : PositionEncoding) (p : Position) (b : ℕ) (bs : List ℕ) → ends_line b bs ≡ false
    → after e p b bs ≡ place p.line (p.character + units e b)
after_within e p b bs fails =
    cond-false (ends_line b bs) (first_of (suc p.line)) (place p.line (p.character + units e b)) fails

map_one : (n : ℕ) (o : Option ℕ) → n ≡ 1 → option_map suc o ≡ option_map (λ m. n + m) o
map_one n None h = refl
map_one n (Some m) h = let e : suc m ≡ n + m = omega arith in ap Some e

map_suc : (n : ℕ) (o : Option ℕ) → option_map suc (option_map (λ m. n + m) o) ≡ option_map (λ m. suc n + m) o
map_suc n None = refl
map_suc n (Some m) = let e : suc (n + m) ≡ suc n + m = omega arith in ap Some e

map_zero : (o : Option ℕ) → o ≡ option_map (λ m. 0 + m) o
map_zero None = refl
map_zero (Some m) = let e : m ≡ 0 + m = omega arith in ap Some e

-- what is known of a later line, the one after `k` others, that begins at `s`
pub record AtStart (at : ℕ) (text : List ℕ) (k s : ℕ) (others : List ℕ) : Type 0 where
  pub passed : ℕ
  pub start : s ≡ at + passed
  pub within : passed ≤ length text
  pub rest : others ≡ starts_from s (drop passed text)
  pub position : (e : PositionEncoding) (p : Position) (m : ℕ)
      → position_from e p text (passed + m) ≡ position_from e (first_of (p.line + suc k)) (drop passed text) m
  pub offset : (e : PositionEncoding) (character : ℕ)
      → offset_from e (suc k) character text
      ≡ option_map (λ n. passed + n) (bytes_before e character (drop passed text))

module _ (at b : ℕ) (bs : List ℕ) where
  ended : ends_line b bs ≡ true → starts_from at (b ∷ bs) ≡ suc at ∷ starts_from (suc at) bs
  ended holds = cond-true (ends_line b bs) (suc at ∷ starts_from (suc at) bs) (starts_from (suc at) bs) holds

  continued : ends_line b bs ≡ false → starts_from at (b ∷ bs) ≡ starts_from (suc at) bs
  continued fails = cond-false (ends_line b bs) (suc at ∷ starts_from (suc at) bs) (starts_from (suc at) bs) fails

  position_step : (e : PositionEncoding) (p : Position) (n m : ℕ)
      → position_from e p (b ∷ bs) (suc n + m) ≡ position_from e (after e p b bs) bs (n + m)
  position_step e p n m =
      let sum : suc n + m ≡ suc (n + m) = omega arith in
      ap (position_from e p (b ∷ bs)) sum

  -- the next line begins after the byte
  first_start : ends_line b bs ≡ true → AtStart at (b ∷ bs) 0 (suc at) (starts_from (suc at) bs)
  first_start holds = record {
    passed = 1;
    start = omega arith;
    within = omega arith;
    rest = refl;
    position = λ e p m.
        let next : suc p.line ≡ p.line + 1 = omega arith in
        let none : 0 + m ≡ m = omega arith in
        position_step e p 0 m
        ∙ ap (λ q. position_from e q bs (0 + m)) (after_end e p b bs holds)
        ∙ ap (λ n. position_from e (first_of (suc p.line)) bs n) none
        ∙ ap (λ n. position_from e (first_of n) bs m) next;
    offset = λ e character.
        ap (λ c. option_map suc (offset_from e (cond c 0 1) character bs)) holds
        ∙ map_one 1 (bytes_before e character bs) refl;
  }

  -- it begins later
  later_start : (k s : ℕ) (others : List ℕ) → ends_line b bs ≡ true → AtStart (suc at) bs k s others
      → AtStart at (b ∷ bs) (suc k) s others
  later_start k s others holds known = record {
    passed = suc known.passed;
    start = omega (arith, known.start);
    within = omega (arith, known.within);
    rest = known.rest;
    position = λ e p m.
        let lines : suc p.line + suc k ≡ p.line + suc (suc k) = omega arith in
        position_step e p known.passed m
        ∙ ap (λ q. position_from e q bs (known.passed + m)) (after_end e p b bs holds)
        ∙ known.position e (first_of (suc p.line)) m
        ∙ ap (λ n. position_from e (first_of n) (drop known.passed bs) m) lines;
    offset = λ e character.
        ap (λ c. option_map suc (offset_from e (cond c (suc k) (suc (suc k))) character bs)) holds
        ∙ ap (option_map suc) (known.offset e character)
        ∙ map_suc known.passed (bytes_before e character (drop known.passed bs));
  }

  -- the byte is in its line
  start_after : (k s : ℕ) (others : List ℕ) → ends_line b bs ≡ false → AtStart (suc at) bs k s others
      → AtStart at (b ∷ bs) k s others
  start_after k s others fails known = record {
    passed = suc known.passed;
    start = omega (arith, known.start);
    within = omega (arith, known.within);
    rest = known.rest;
    position = λ e p m.
        position_step e p known.passed m
        ∙ ap (λ q. position_from e q bs (known.passed + m)) (after_within e p b bs fails)
        ∙ known.position e (place p.line (p.character + units e b)) m;
    offset = λ e character.
        ap (λ c. option_map suc (offset_from e (cond c k (suc k)) character bs)) fails
        ∙ ap (option_map suc) (known.offset e character)
        ∙ map_suc known.passed (bytes_before e character (drop known.passed bs));
  }

  start_step : ((k s : ℕ) (others : List ℕ) → drop k (starts_from (suc at) bs) ≡ s ∷ others → AtStart (suc at) bs k s others)
      → (c : Bool) → ends_line b bs ≡ c
      → (k s : ℕ) (others : List ℕ) → drop k (starts_from at (b ∷ bs)) ≡ s ∷ others → AtStart at (b ∷ bs) k s others
  start_step known true holds zero s others is =
      let both : suc at ∷ starts_from (suc at) bs ≡ s ∷ others = sym (ended holds) ∙ is in
      let here : suc at ≡ s = cc in
      let these : starts_from (suc at) bs ≡ others = cc in
      subst (λ n. AtStart at (b ∷ bs) 0 n others) here
      (subst (λ ns. AtStart at (b ∷ bs) 0 (suc at) ns) these (first_start holds))
  start_step known true holds (suc k) s others is =
      later_start k s others holds (known k s others (ap (drop (suc k)) (sym (ended holds)) ∙ is))
  start_step known false fails k s others is =
      start_after k s others fails (known k s others (ap (drop k) (sym (continued fails)) ∙ is))

  past_step : (e : PositionEncoding) (character : ℕ)
      → ((k : ℕ) → drop k (starts_from (suc at) bs) ≡ [] → offset_from e (suc k) character bs ≡ None)
      → (c : Bool) → ends_line b bs ≡ c
      → (k : ℕ) → drop k (starts_from at (b ∷ bs)) ≡ [] → offset_from e (suc k) character (b ∷ bs) ≡ None
  past_step e character known true holds zero is =
      let none : suc at ∷ starts_from (suc at) bs ≡ [] = sym (ended holds) ∙ is in cc
  past_step e character known true holds (suc k) is =
      ap (λ c. option_map suc (offset_from e (cond c (suc k) (suc (suc k))) character bs)) holds
      ∙ ap (option_map suc) (known k (ap (drop (suc k)) (sym (ended holds)) ∙ is))
  past_step e character known false fails k is =
      ap (λ c. option_map suc (offset_from e (cond c k (suc k)) character bs)) fails
      ∙ ap (option_map suc) (known k (ap (drop k) (sym (continued fails)) ∙ is))

at_start : (at : ℕ) (text : List ℕ) (k s : ℕ) (others : List ℕ) → drop k (starts_from at text) ≡ s ∷ others
    → AtStart at text k s others
at_start at [] zero s others is = cc
at_start at [] (suc k) s others is = cc
at_start at (b ∷ bs) k s others is = start_step at b bs (at_start (suc at) bs) (ends_line b bs) refl k s others is

past_all : (e : PositionEncoding) (character at : ℕ) (text : List ℕ) (k : ℕ) → drop k (starts_from at text) ≡ []
    → offset_from e (suc k) character text ≡ None
past_all e character at [] k is = refl
past_all e character at (b ∷ bs) k is =
    past_step at b bs e character (past_all e character (suc at) bs) (ends_line b bs) refl k is

-- what is known of a line that begins at `s`
pub record OnLine (text : List ℕ) (line s : ℕ) : Type 0 where
  pub within : s ≤ length text
  pub rest : drop (suc line) (line_starts text) ≡ starts_from s (drop s text)
  pub position : (e : PositionEncoding) (m : ℕ)
      → position_at e text (s + m) ≡ position_from e (first_of line) (drop s text) m
  pub offset : (e : PositionEncoding) (character : ℕ)
      → offset_from e line character text ≡ option_map (λ n. s + n) (bytes_before e character (drop s text))

pub on_line : (text : List ℕ) (line : ℕ) → line < length (line_starts text)
    → OnLine text line (slice_index (line_starts text) line)
on_line text zero inside = record {
  within = omega arith;
  rest = refl;
  position = λ e m. let none : 0 + m ≡ m = omega arith in ap (position_at e text) none;
  offset = λ e character. map_zero (bytes_before e character text);
}
on_line text (suc k) inside =
    let starts = starts_from 0 text in
    let s = slice_index starts k in
    let low : k < length starts = omega arith in
    let known = at_start 0 text k s (drop (suc k) starts) (drop-cons starts k 0 low) in
    let same : known.passed ≡ s = omega (arith, known.start) in
    let line : 0 + suc k ≡ suc k = omega arith in
    record {
      within = omega (arith, known.within);
      rest = known.rest ∙ ap (λ n. starts_from s (drop n text)) same;
      position = λ e m.
          ap (λ n. position_at e text (n + m)) (sym same)
          ∙ known.position e (first_of 0) m
          ∙ ap (λ n. position_from e (first_of n) (drop known.passed text) m) line
          ∙ ap (λ n. position_from e (first_of (suc k)) (drop n text) m) same;
      offset = λ e character.
          known.offset e character
          ∙ ap (λ n. option_map (λ m. n + m) (bytes_before e character (drop n text))) same;
    }

-- a text has no other lines
pub past_lines : (e : PositionEncoding) (text : List ℕ) (line character : ℕ) → length (line_starts text) ≤ line
    → offset_from e line character text ≡ None
past_lines e text zero character past =
    let some : suc (length (starts_from 0 text)) ≤ 0 = past in absurd (omega arith)
past_lines e text (suc k) character past =
    let low : length (starts_from 0 text) ≤ k = omega arith in
    past_all e character 0 text k (drop_all k (starts_from 0 text) low)

-- a line begins in the text
pub start_within : (text : List ℕ) (line : ℕ) → line < length (line_starts text)
    → slice_index (line_starts text) line ≤ length text
start_within text line inside = (on_line text line inside).within

module _ (text starts : List ℕ) (line : ℕ) (lines : starts ≡ line_starts text) (inside : line < length starts) where
  known : OnLine text line (slice_index starts line)
  known = subst (λ (ss : List ℕ). line < length ss → OnLine text line (slice_index ss line)) (sym lines) (on_line text line) inside

  -- the bytes from the line on
  abbrev pub from_line : List ℕ
  from_line = take (length text - slice_index starts line) (drop (slice_index starts line) text)

  all_taken : from_line ≡ drop (slice_index starts line) text
  all_taken =
      let s = slice_index starts line in
      let few : length (drop s text) ≤ length text - s = rw (length-drop s text) (omega arith) in
      take_all (length text - s) (drop s text) few

  -- what a line has before a character is in the text after what comes before the line
  pub offset_some : (e : PositionEncoding) (character before : ℕ)
      → Some before ≡ bytes_before e character from_line
      → Some (slice_index starts line + before) ≡ offset_from e line character text
  offset_some e character before is =
      let s = slice_index starts line in
      ap (option_map (λ n. s + n)) (is ∙ ap (bytes_before e character) all_taken) ∙ sym (known.offset e character)

  pub offset_none : (e : PositionEncoding) (character : ℕ)
      → None ≡ bytes_before e character from_line
      → None ≡ offset_from e line character text
  offset_none e character is =
      let s = slice_index starts line in
      ap (option_map (λ n. s + n)) (is ∙ ap (bytes_before e character) all_taken) ∙ sym (known.offset e character)

  -- where a character of a line begins, one of the text does
  pub boundary_in : (n : ℕ) → IsCharBoundary from_line n
      → IsCharBoundary text (slice_index starts line + n)
  boundary_in n found =
      let boundary : IsCharBoundary (drop (slice_index starts line) text) n = subst (λ (t : List ℕ). IsCharBoundary t n) all_taken found in
      let s = slice_index starts line in
      let within : s ≤ length text = known.within in
      let few : n ≤ length text - s = subst (λ k. n ≤ k) (length-drop s text) boundary.0 in
      let same : get_or (drop s text) n 0 ≡ get_or text (s + n) 0 = get_or-drop s text n 0 in (
        omega arith,
        λ low high.
            let less : n < length text - s = omega arith in
            let lower : n < length (drop s text) = subst (λ k. n < k) (sym (length-drop s text)) less in
            subst (λ b. 192 ≤ b) same (boundary.1 lower (subst (λ b. 128 ≤ b) (sym same) high)),
      )
