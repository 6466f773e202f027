-- What a buffer holds, and what when one more item is written to it.
use Rattle.std.proofs.Common.{◌≡◌, ℕ, suc, ◌+◌, ◌-◌, ◌^◌, ◌<◌, ◌≤◌, min, List, [], ◌∷◌, ◌++◌, length, take, drop, set, map, Option, Some, None, refl, sym, ap, subst, ◌∙◌, arith}
use Rattle.std.proofs.lemmas.List.{take_all, take_more_set, map-append, append_assoc, append-nil, length-append, length-set, take-append-le}
use Rattle.std.specs.Str.{IsUtf8, chars}
use Rattle.grammar.specs.Tokens.{Token}
use Rattle.wgsl_model.specs.Tokens.Places.{width}
use Rattle.wgsl_theory_grammar.proofs.Tokens.Places.{bytes_width}
use Rattle.wgsl_span.specs.declared.Span.{Span}
use Rattle.wgsl_lex_token.specs.declared.kind_table.TokenKind.{TokenKind}
use Rattle.wgsl_lex_token.specs.View.{class_of_kind}
use Rattle.wgsl_lex_templates.specs.Lists.{AreLists}
use Rattle.wgsl_lex_templates.specs.Spans.{end_from}
use Rattle.wgsl_lexer.specs.TextTokens.{StartWithKind, BeginAt}
use Rattle.wgsl_buffers.specs.declared.lists.Place.{Place}
use Rattle.wgsl_buffers.specs.declared.tokens.PlacedKind.{PlacedKind}
use Rattle.wgsl_buffers.specs.Items.{Stored, kind_and_place, item_of_token, token_items, start_and_end, list_at, lists_before, ArePlaces}

-- at first there is none
pub none_stored : {X Y : Type 0} (view : X → Y) (buffer : List X) → Stored view [] buffer 0
none_stored view buffer = record { counted = refl; held = sym (take_all (length buffer) [] (omega arith)) }

-- where there is buffer for one more, it is written
pub one_more : {X Y : Type 0} (view : X → Y) (items : List Y) (buffer : List X) (n : ℕ) (x : X)
    → length buffer < 2 ^ 63 → n < length buffer → Stored view items buffer n
    → Stored view (items ++ (view x ∷ [])) (set buffer n x) (min (n + 1) (2 ^ 64 - 1))
one_more view items buffer n x bound fits s =
    let at_end : n ≡ length items = omega (arith, s.counted, bound, fits) in
    let longer : length (items ++ (view x ∷ [])) ≡ n + 1 = length-append items (view x ∷ [])
    ∙ ap (λ k. k + 1) (sym at_end) in
    record {
      counted = omega (arith, longer, bound, fits);
      held = ap (λ k. map view (take k (set buffer n x))) longer
          ∙ ap (map view) (take_more_set buffer n x fits) ∙ map-append view (take n buffer) (x ∷ [])
          ∙ ap (λ ys. ys ++ (view x ∷ [])) (ap (λ k. map view (take k buffer)) at_end ∙ s.held
          ∙ take_all (length buffer) items (omega (arith, at_end, fits)))
          ∙ sym (take_all (length (set buffer n x)) (items ++ (view x ∷ []))
          (omega (arith, longer, length-set buffer n x, fits)));
    }

-- where there is none, it is counted alone
pub one_beyond : {X Y : Type 0} (view : X → Y) (items : List Y) (buffer : List X) (n : ℕ) (y : Y)
    → length buffer < 2 ^ 63 → length buffer ≤ n → Stored view items buffer n
    → Stored view (items ++ (y ∷ [])) buffer (min (n + 1) (2 ^ 64 - 1))
one_beyond view items buffer n y bound full s =
    let longer : length (items ++ (y ∷ [])) ≡ length items + 1 = length-append items (y ∷ []) in
    let enough : length buffer ≤ length items = omega (arith, s.counted, full, bound) in
    record {
      counted = omega (arith, longer, s.counted);
      held = ap (map view) (take_all (length (items ++ (y ∷ []))) buffer (omega (arith, longer, enough))
          ∙ sym (take_all (length items) buffer enough)) ∙ s.held
          ∙ sym (take-append-le (length buffer) items (y ∷ []) enough);
    }

-- some tokens are stored, and with those that are left they are all
pub record Written (all left : List Token) (buffer : List PlacedKind) (n : ℕ) : Type 0 where
  pub done : List Token
  pub whole : all ≡ done ++ left
  pub stored : Stored kind_and_place (token_items done) buffer n

-- at first none is stored
pub none_written : (all : List Token) (buffer : List PlacedKind) → Written all all buffer 0
none_written all buffer = record { done = []; whole = refl; stored = none_stored kind_and_place buffer }

-- one more token is stored
pub token_next : (all left : List Token) (buffer new : List PlacedKind) (n m : ℕ) (kind : TokenKind) (span : Span)
    → StartWithKind left kind → BeginAt left span
    → ((items : List (ℕ × ℕ × ℕ)) → Stored kind_and_place items buffer n
    → Stored kind_and_place (items ++ ((class_of_kind kind, span.start, span.end) ∷ [])) new m)
    → Written all left buffer n → Written all (drop 1 left) new m
token_next all [] buffer new n m kind span first at put w = absurd first
token_next all (t ∷ ts) buffer new n m kind span first at put w =
    let same : (class_of_kind kind, span.start, span.end) ≡ item_of_token t = sym (λ i. (first i, at.0 i, at.1 i)) in
    record {
      done = w.done ++ (t ∷ []);
      whole = w.whole ∙ sym (append_assoc w.done (t ∷ []) ts);
      stored = subst (λ items. Stored kind_and_place items new m)
          (ap (λ x. token_items w.done ++ (x ∷ [])) same ∙ sym (map-append item_of_token w.done (t ∷ [])))
          (put (token_items w.done) w.stored);
    }

-- where none is left, all are stored
pub all_written : (all left : List Token) (buffer : List PlacedKind) (n : ℕ) → left ≡ []
    → Written all left buffer n → Stored kind_and_place (token_items all) buffer n
all_written all left buffer n none w =
    let all_done : w.done ≡ all = sym (w.whole ∙ ap (λ ts. w.done ++ ts) none ∙ append-nil w.done) in
    subst (λ ts. Stored kind_and_place (token_items ts) buffer n) all_done w.stored

-- what is listed before the next place
list_next : (spans : List Span) (start : ℕ) (found : Option ℕ) → end_from spans start ≡ found
    → lists_before spans start ++ list_at start found ≡ lists_before spans (start + 1)
list_next spans start found told =
    let on : suc start ≡ start + 1 = omega arith in
    ap (λ x. lists_before spans start ++ list_at start x) (sym told) ∙ ap (lists_before spans) on

-- one more list is stored
pub list_more : (spans : List Span) (start end : ℕ) (buffer : List Place) (n : ℕ)
    → end_from spans start ≡ Some end → length buffer < 2 ^ 63 → n < length buffer
    → Stored start_and_end (lists_before spans start) buffer n
    → Stored start_and_end (lists_before spans (start + 1))
    (set buffer n (record { start = start; end = end })) (min (n + 1) (2 ^ 64 - 1))
list_more spans start end buffer n told bound fits s =
    let v : Place = record { start = start; end = end } in
    subst (λ items. Stored start_and_end items (set buffer n v) (min (n + 1) (2 ^ 64 - 1)))
    (list_next spans start (Some end) told)
    (one_more start_and_end (lists_before spans start) buffer n v bound fits s)

-- one more list is counted
pub list_beyond : (spans : List Span) (start end : ℕ) (buffer : List Place) (n : ℕ)
    → end_from spans start ≡ Some end → length buffer < 2 ^ 63 → length buffer ≤ n
    → Stored start_and_end (lists_before spans start) buffer n
    → Stored start_and_end (lists_before spans (start + 1)) buffer (min (n + 1) (2 ^ 64 - 1))
list_beyond spans start end buffer n told bound full s =
    subst (λ items. Stored start_and_end items buffer (min (n + 1) (2 ^ 64 - 1))) (list_next spans start (Some end) told)
    (one_beyond start_and_end (lists_before spans start) buffer n (start, end) bound full s)

-- no list starts at a place
pub list_none : (spans : List Span) (start : ℕ) (buffer : List Place) (n : ℕ)
    → end_from spans start ≡ None → Stored start_and_end (lists_before spans start) buffer n
    → Stored start_and_end (lists_before spans (start + 1)) buffer n
list_none spans start buffer n told s =
    subst (λ items. Stored start_and_end items buffer n)
    (sym (append-nil (lists_before spans start)) ∙ list_next spans start None told) s

-- the places that are listed before the end of a text are those of all its lists
pub all_places : (text : List ℕ) (spans : List Span) → IsUtf8 text
    → AreLists (width (chars text)) spans (chars text)
    → ArePlaces (chars text) (lists_before spans (length text))
all_places text spans valid lists = (spans, lists, ap (lists_before spans) (sym (bytes_width text valid)))

-- the loop over template lists
pub ruleset lists = (none_stored, list_more, list_beyond, list_none)

-- one more item
pub ruleset items = (one_more, one_beyond)

-- the loop over tokens
pub ruleset tokens = (token_next, none_written, all_written)
