-- The offset of the position of a border is the border.
use Rattle.std.proofs.Common.{◌≡◌, refl, ap, sym, ◌∙◌, subst, ℕ, zero, suc, ◌+◌, ◌-◌, ◌<◌, ◌≤◌, ◌==◌, nat_lt, nat_le, Bool, true, false, cond, ◌&&◌, ◌||◌, not, List, [], ◌∷◌, length, slice_index, Some, None, ◌⊎◌, inl, inr, eq-eqb, arith}
use Rattle.std.proofs.Math.Bool.{or-true}
use Rattle.std.proofs.lemmas.Bool.{cond-true, le-ltb, le-leb, false_from_ne_true}
use Rattle.std.proofs.lemmas.Bool.Decides.{Decides-eqb, nat_tests}
use Rattle.std.specs.Option.{option_map}
use Rattle.wgsl_server_text.specs.Lines.{is_break, begins_with_line_feed, ends_line}
use Rattle.wgsl_server_text.specs.Positions.{is_first, units, after, position_from, position_at, bytes_before, offset_from, offset_at, IsBorder}
use Rattle.wgsl_server_text.specs.Edits.{in_order, offsets_of, range_at}
use Rattle.wgsl_server_text.specs.declared.encoding.PositionEncoding.{PositionEncoding}
use Rattle.wgsl_server_text.specs.declared.encoding.PositionEncoding.TheVariants as encoding
use Rattle.wgsl_server_text.specs.declared.position.Position.{Position}
use Rattle.wgsl_server_text.proofs.LineStarts.{place, first_of, after_end, after_within}
use Rattle.wgsl_server_text.proofs.Reached.{is_reached, past_byte}

-- a position that leads back to a number of bytes after p, in p's line
record InSameLine (e : PositionEncoding) (p q : Position) (text : List ℕ) (n : ℕ) : Type 0 where
  pub line : q.line ≡ p.line
  pub from : p.character ≤ q.character
  pub before : bytes_before e (q.character - p.character) text ≡ Some n

-- the same in a later line
record InLaterLine (e : PositionEncoding) (p q : Position) (text : List ℕ) (n : ℕ) : Type 0 where
  pub further : ℕ
  pub line : q.line ≡ p.line + suc further
  pub before : offset_from e (suc further) q.character text ≡ Some n

abbrev LeadsBack : PositionEncoding → Position → Position → List ℕ → ℕ → Type 0
LeadsBack e p q text n = InSameLine e p q text n ⊎ InLaterLine e p q text n

border_rest : (b : ℕ) (bs : List ℕ) (n : ℕ) → IsBorder (b ∷ bs) (suc n) → IsBorder bs n
border_rest b bs n border = record {
  boundary = (omega (arith, border.boundary.0), λ low high. border.boundary.1 (omega arith) high);
  whole = λ broken.
      let same : suc n - 1 ≡ suc (n - 1) = omega (arith, broken.within) in
      border.whole (record { within = omega arith; return = ap (slice_index (b ∷ bs)) same ∙ broken.return; feed = broken.feed });
}

border_first : (b : ℕ) (bs : List ℕ) → IsBorder (b ∷ bs) 0 → is_first b ≡ true
border_first b bs border =
    let some : 0 < suc (length bs) = omega arith in
    let first : 128 ≤ b → 192 ≤ b = border.boundary.1 some in
    grind (arith, nat_tests)

-- a first byte has units
at_least : (c : Bool) (x y least : ℕ) → least ≤ x → least ≤ y → least ≤ cond c x y
at_least true x y least h k = h
at_least false x y least h k = k

first_units : (e : PositionEncoding) (b : ℕ) → is_first b ≡ true → 1 ≤ units e b
first_units encoding.Utf8 b first = omega arith
first_units encoding.Utf16 b first =
    subst (λ n. 1 ≤ n) (sym (cond-true (is_first b) (cond (nat_lt b 240) 1 2) 0 first))
    (at_least (nat_lt b 240) 1 2 1 (omega arith) (omega arith))

neither : (x y : Bool) → (y ≡ true → x ≡ false) → (x && y) ≡ false
neither true true h = h refl
neither true false h = refl
neither false y h = refl

-- the character isn't in front of a byte with more than no units before it, unless that is a line break
not_reached : (b left : ℕ) → is_break b ≡ false → (is_first b ≡ true → 1 ≤ left) → is_reached b left ≡ false
not_reached b left fails later =
    ap (λ t. t || (left == 0 && is_first b)) fails
    ∙ neither (left == 0) (is_first b) (λ first.
    false_from_ne_true (left == 0) (λ none.
    let here : left ≡ 0 = (Decides-eqb left 0).0 none in
    let more : 1 ≤ left = later first in
    omega arith))

reached : (b left : ℕ) → left ≡ 0 → is_first b ≡ true → is_reached b left ≡ true
reached b left none first =
    ap (λ t. is_break b || (t && is_first b)) (eq-eqb left 0 none)
    ∙ ap (λ t. is_break b || t) first
    ∙ or-true (is_break b)

-- lines grow along a text
after_line : (c : Bool) (line character : ℕ) → line ≤ (cond c (first_of (suc line)) (place line character)).line
after_line true line character = omega arith
after_line false line character = omega arith

lines_grow : (e : PositionEncoding) (p : Position) (text : List ℕ) (n : ℕ) → p.line ≤ (position_from e p text n).line
lines_grow e p [] n = omega arith
lines_grow e p (b ∷ bs) zero = omega arith
lines_grow e p (b ∷ bs) (suc n) =
    let one : p.line ≤ (after e p b bs).line = after_line (ends_line b bs) p.line (p.character + units e b) in
    let rest : (after e p b bs).line ≤ (position_from e (after e p b bs) bs n).line = lines_grow e (after e p b bs) bs n in
    omega (arith, one, rest)

-- where a byte of a line break ends no line, it is a CR before a LF
return_only : (x y z : Bool) → (x || (y && not z)) ≡ false → (x || y) ≡ true → (y ≡ true) × (z ≡ true)
return_only true y z fails holds = cc
return_only false true true fails holds = (refl, refl)
return_only false true false fails holds = cc
return_only false false z fails holds = cc

-- after that CR the line ends, so no border in this line follows it
no_border : (e : PositionEncoding) (p : Position) (b : ℕ) (bs : List ℕ) (n : ℕ) → b ≡ 13
    → begins_with_line_feed bs ≡ true → IsBorder (b ∷ bs) (suc n) → (position_from e p bs n).line ≡ p.line → ⊥
no_border e p b [] n return feeds border same = cc
no_border e p b (c ∷ bs) zero return feeds border same =
    let same : suc zero - 1 ≡ 0 = omega arith in
    border.whole (record {
      within = omega arith;
      return = ap (slice_index (b ∷ c ∷ bs)) same ∙ return;
      feed = (Decides-eqb c 10).0 feeds;
    })
no_border e p b (c ∷ bs) (suc n) return feeds border same =
    let ends : ends_line c bs ≡ true = ap (λ t. t || (c == 13 && not (begins_with_line_feed bs))) feeds in
    let grown : suc p.line ≤ (position_from e (first_of (suc p.line)) bs n).line
    = lines_grow e (first_of (suc p.line)) bs n in
    let next : (position_from e (after e p c bs) bs n).line ≡ (position_from e (first_of (suc p.line)) bs n).line
    = ap (λ (r : Position). (position_from e r bs n).line) (after_end e p c bs ends) in
    let here : (position_from e (after e p c bs) bs n).line ≡ p.line = same in
    omega (arith, grown, next, here)

not_break : (e : PositionEncoding) (p : Position) (b : ℕ) (bs : List ℕ) (n : ℕ) → ends_line b bs ≡ false
    → IsBorder (b ∷ bs) (suc n) → (position_from e p bs n).line ≡ p.line → is_break b ≡ false
not_break e p b bs n fails border same =
    false_from_ne_true (is_break b) (λ holds.
    let both = return_only (b == 10) (b == 13) (begins_with_line_feed bs) fails holds in
    no_border e p b bs n ((Decides-eqb b 13).0 both.0) both.1 border same)

module _ (e : PositionEncoding) (p q : Position) (b : ℕ) (bs : List ℕ) (n : ℕ) where
  -- a byte before, after which a line ends
  end_back : ends_line b bs ≡ true → LeadsBack e (first_of (suc p.line)) q bs n → LeadsBack e p q (b ∷ bs) (suc n)
  end_back holds (inl here) =
      let none : q.character ≡ q.character - 0 = omega arith in
      inr (record {
        further = 0;
        line = omega (arith, here.line);
        before = ap (λ c. option_map suc (offset_from e (cond c 0 1) q.character bs)) holds
            ∙ ap (λ k. option_map suc (bytes_before e k bs)) none
            ∙ ap (option_map suc) here.before;
      })
  end_back holds (inr later) = inr (record {
    further = suc later.further;
    line = omega (arith, later.line);
    before = ap (λ c. option_map suc (offset_from e (cond c (suc later.further) (suc (suc later.further))) q.character bs)) holds
        ∙ ap (option_map suc) later.before;
  })

  -- another byte before
  within_back : ends_line b bs ≡ false → (q.line ≡ p.line → is_break b ≡ false)
      → LeadsBack e (place p.line (p.character + units e b)) q bs n
      → LeadsBack e p q (b ∷ bs) (suc n)
  within_back fails plain (inl here) =
      let left = q.character - p.character in
      let from : p.character + units e b ≤ q.character = here.from in
      let enough : units e b ≤ left = omega arith in
      let less : left - units e b ≡ q.character - (p.character + units e b) = omega arith in
      inl (record {
        line = here.line;
        from = omega arith;
        before = past_byte e left b bs
            (not_reached b left (plain here.line) (λ first. let some = first_units e b first in omega (arith, some)))
            (le-ltb left (units e b) enough)
            ∙ ap (λ k. option_map suc (bytes_before e k bs)) less
            ∙ ap (option_map suc) here.before;
      })
  within_back fails plain (inr later) = inr (record {
    further = later.further;
    line = later.line;
    before = ap (λ c. option_map suc (offset_from e (cond c later.further (suc later.further)) q.character bs)) fails
        ∙ ap (option_map suc) later.before;
  })

back_step : (e : PositionEncoding) (p : Position) (b : ℕ) (bs : List ℕ) (n : ℕ) → IsBorder (b ∷ bs) (suc n)
    → ((r : Position) → LeadsBack e r (position_from e r bs n) bs n)
    → (c : Bool) → ends_line b bs ≡ c → LeadsBack e p (position_from e (after e p b bs) bs n) (b ∷ bs) (suc n)
back_step e p b bs n border known true holds =
    subst (λ (r : Position). LeadsBack e p (position_from e r bs n) (b ∷ bs) (suc n)) (sym (after_end e p b bs holds))
    (end_back e p (position_from e (first_of (suc p.line)) bs n) b bs n holds (known (first_of (suc p.line))))
back_step e p b bs n border known false fails =
    let r : Position = place p.line (p.character + units e b) in
    subst (λ (r : Position). LeadsBack e p (position_from e r bs n) (b ∷ bs) (suc n)) (sym (after_within e p b bs fails))
    (within_back e p (position_from e r bs n) b bs n fails (λ same. not_break e r b bs n fails border same) (known r))

back : (e : PositionEncoding) (p : Position) (text : List ℕ) (n : ℕ) → IsBorder text n
    → LeadsBack e p (position_from e p text n) text n
back e p [] zero border = inl (record { line = refl; from = omega arith; before = refl })
back e p [] (suc n) border = let none : suc n ≤ 0 = border.boundary.0 in absurd (omega arith)
back e p (b ∷ bs) zero border =
    let left = p.character - p.character in
    let none : left ≡ 0 = omega arith in
    inl (record {
      line = refl;
      from = omega arith;
      before = cond-true (is_reached b left) (Some 0)
          (cond (nat_lt left (units e b)) None (option_map suc (bytes_before e (left - units e b) bs)))
          (reached b left none (border_first b bs border));
    })
back e p (b ∷ bs) (suc n) border =
    back_step e p b bs n border (λ r. back e r bs n (border_rest b bs n border)) (ends_line b bs) refl

offset_back : (e : PositionEncoding) (text : List ℕ) (q : Position) (n : ℕ) → LeadsBack e (first_of 0) q text n
    → offset_at e text q ≡ Some n
offset_back e text q n (inl here) =
    let none : q.character ≡ q.character - 0 = omega arith in
    ap (λ k. offset_from e k q.character text) here.line
    ∙ ap (λ k. bytes_before e k text) none
    ∙ here.before
offset_back e text q n (inr later) =
    let line : q.line ≡ suc later.further = omega (arith, later.line) in
    ap (λ k. offset_from e k q.character text) line ∙ later.before

pub offsets_back : (e : PositionEncoding) (text : List ℕ) (n : ℕ) → IsBorder text n
    → offset_at e text (position_at e text n) ≡ Some n
offsets_back e text n border = offset_back e text (position_at e text n) n (back e (first_of 0) text n border)

-- the offsets of the range between two borders are these
pub range_back : (e : PositionEncoding) (text : List ℕ) (start end : ℕ) → IsBorder text start → IsBorder text end
    → start ≤ end → offsets_of e text (range_at e text start end) ≡ Some (start, end)
range_back e text start end from to order =
    ap (λ o. in_order o (offset_at e text (position_at e text end))) (offsets_back e text start from)
    ∙ ap (in_order (Some start)) (offsets_back e text end to)
    ∙ cond-true (nat_le start end) (Some (start, end)) None (le-leb start end order)
