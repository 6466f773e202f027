-- What one more `<` from the right leaves of a source.
use Rattle.std.proofs.Common.{◌≡◌, ℕ, ◌+◌, ◌*◌, ◌<◌, ◌≤◌, true, false, List, [], ◌∷◌, ◌++◌, Some, take, drop, chars, length, refl, sym, ap, subst, ◌∙◌, append-nil, append_assoc, arith, mul-le-mul_left}
use Rattle.std.specs.Prelude.{◌==◌, ◌^◌}
use Rattle.std.specs.Str.{IsUtf8, IsCharBoundary, NonePass, NoCharPasses}
use Rattle.std.specs.Str.Pattern.{RFindsChar, SplitsAroundMatch}
use Rattle.std.proofs.lemmas.List.{take-append-drop}
use Rattle.std.proofs.lemmas.List.Sums.{count_by-le-length}
use Rattle.std.proofs.lemmas.Str.{IsUtf8-take, IsUtf8-drop, IsUtf8-past_char, IsCharBoundary-before_ascii, chars-append, chars_past_char, chars_from_encodes, length-le-encodes}
use Rattle.wgsl_model.specs.Tokens.ClassTable.{SymLessThan}
use Rattle.wgsl_model.specs.Tokens.Kind.{Kind}
use Rattle.wgsl_model.specs.Tokens.Raw.{raw, token}
use Rattle.wgsl_model.specs.Tokens.Places.{place, width}
use Rattle.wgsl_span.specs.declared.Span.{Span}
use Rattle.wgsl_model.specs.Tokens.Templates.{NoTemplate, Template}
use Rattle.wgsl_theory_grammar.proofs.Tokens.Cuts.{EndsWith}
use Rattle.wgsl_theory_grammar.proofs.Tokens.Widths.{within}
use Rattle.wgsl_theory_grammar.proofs.Tokens.Unique.{marked}
use Rattle.wgsl_theory_templates.specs.Attempts.{EndsAt}
use Rattle.wgsl_theory_templates.proofs.Swaps.Attempts.{none_begins, front_list}
use Rattle.wgsl_lex_templates.specs.declared.findings.Finding.{Finding}
use Rattle.wgsl_lex_templates.specs.declared.findings.Finding.TheVariants.{Around, GoesOn}
use Rattle.wgsl_lex_templates.specs.declared.kept.Piece.{Piece}
use Rattle.wgsl_lex_templates.specs.Findings.{IsFinding, begun_list, greater_place}
use Rattle.wgsl_lex_templates.specs.Readings.{costs}
use Rattle.wgsl_lex_templates.specs.Lists.{ListEnds, TellLists, AreLists, less_than_signs}
use Rattle.wgsl_theory_grammar.proofs.Tokens.Places.{bytes_width, cut_end}
use Rattle.wgsl_lex_templates.proofs.TextLists.Begun.{one_end}
use Rattle.wgsl_lex_templates.proofs.TextLists.Known.{end_place}
use Rattle.wgsl_lex_templates.proofs.TextLists.Listed.{HasNoLess, Done, told, told_more, none_more, one_more, one_sign_more, all_lists}

-- ---- no `<`
none_pass : (cs : List ℕ) → NonePass (λ d. d == 60) cs → HasNoLess cs
none_pass [] n [] following e = absurd cc
none_pass [] n (b ∷ before) following e = absurd cc
none_pass (c ∷ cs) n [] following e = let same : c ≡ 60 = cc in absurd (no_sign c n.0 same) where
  no_sign : (c : ℕ) → (c == 60) ≡ false → c ≡ 60 → ⊥
  no_sign c f e = let g : (60 == 60) ≡ false = subst (λ x. (x == 60) ≡ false) e f in absurd cc
none_pass (c ∷ cs) n (b ∷ before) following e =
    let tails : cs ≡ before ++ (60 ∷ following) = cc in none_pass cs n.1 before following tails

pub no_less : (bs : List ℕ) → IsUtf8 bs → NoCharPasses (λ d. d == 60) bs → HasNoLess (chars bs)
no_less bs u (cs, e, n) = subst HasNoLess (chars_from_encodes cs bs u e) (none_pass cs n)

-- ---- the last `<` of what is left
pub record Split (left before : List ℕ) : Type 0 where
  pub back : List ℕ
  pub clear : HasNoLess back
  pub parts : chars left ≡ chars before ++ (60 ∷ back)
  pub text : IsUtf8 before

pub split_last : (left before back : List ℕ) → IsUtf8 left
    → SplitsAroundMatch (RFindsChar 60) left before back → Split left before
split_last left before back u (i, j, (none, at), front, following, l, size, more) =
    let less : i < length left = omega (arith, at.ends, more) in
    let boundary = IsCharBoundary-before_ascii left i less (omega (arith, at.byte (omega arith))) in
    let rest = IsUtf8-drop left i u boundary in
    record {
      back = chars (drop j left);
      clear = no_less (drop j left) (IsUtf8-past_char (drop i left) (drop j left) 60 rest at.split) none;
      parts = ap chars (sym (take-append-drop i left))
          ∙ chars-append (take i left) (drop i left) (IsUtf8-take left i u boundary)
          ∙ ap (λ x. chars x ++ chars (drop i left)) (sym front)
          ∙ ap (λ x. chars before ++ x) (chars_past_char (drop i left) (drop j left) 60 rest at.split);
      text = subst IsUtf8 (sym front) (IsUtf8-take left i u boundary);
    }

-- ---- the source from there on
pub record Cut (source before : List ℕ) (spans : List Span) (attempts : ℕ) : Type 0 where
  pub back : List ℕ
  pub done : List ℕ
  pub clear : HasNoLess back
  pub parts : chars source ≡ chars before ++ (60 ∷ (back ++ done))
  pub lists : AreLists (length source) spans done
  pub few : attempts ≤ less_than_signs done
  pub boundary : IsCharBoundary source (length before)
  pub text : chars (drop (length before) source) ≡ 60 ∷ (back ++ done)
  pub fits : width (60 ∷ (back ++ done)) ≤ length source
  pub at : length before ≡ place (length source) (60 ∷ (back ++ done))

pub cut : (source left before back : List ℕ) (spans : List Span) (attempts : ℕ) → IsUtf8 source
    → IsUtf8 left → Done (length source) (chars source) (chars left) spans attempts
    → SplitsAroundMatch (RFindsChar 60) left before back → Cut source before spans attempts
cut source left before back spans attempts u v d s =
    let m = split_last left before back v s in
    let parts : chars source ≡ chars before ++ (60 ∷ (m.back ++ d.following)) = d.parts
    ∙ ap (λ x. x ++ d.following) m.parts ∙ append_assoc (chars before) (60 ∷ m.back) d.following in
    let ends = cut_end source (chars before) (60 ∷ (m.back ++ d.following)) u parts in
    let size = bytes_width before m.text in
    record {
      back = m.back;
      done = d.following;
      clear = m.clear;
      parts = parts;
      lists = d.lists;
      few = d.few;
      boundary = subst (IsCharBoundary source) size ends.2;
      text = ap (λ n. chars (drop n source)) (sym size) ∙ ap chars ends.0 ∙ ends.1;
      fits = omega (arith, ends.3);
      at = omega (arith, ends.3, size);
    }

-- what is known of the lists after that `<`
pub told_after : (source before text : List ℕ) (spans : List Span) (attempts : ℕ)
    → Cut source before spans attempts → text ≡ drop (length before) source
    → TellLists (length source) spans (drop 1 (chars text))
told_after source before text spans attempts k e =
    let narrow : width k.done ≤ length source =
    omega (arith, k.fits, within (60 ∷ (k.back ++ k.done)) k.done (60 ∷ k.back, refl)) in
    subst (λ x. TellLists (length source) spans (drop 1 x)) (sym (ap chars e ∙ k.text))
    (told_more (length source) spans k.back k.done k.clear (told (length source) spans k.done narrow k.lists))

-- one attempt more is no more than there are bytes
pub attempts_fit : (source before : List ℕ) (spans : List Span) (attempts : ℕ)
    → Cut source before spans attempts → attempts + 1 ≤ length source
attempts_fit source before spans attempts k =
    omega (
      arith,
      k.few,
      k.fits,
      one_sign_more k.back k.done,
      count_by-le-length (λ c. c == 60) (60 ∷ (k.back ++ k.done)),
      length-le-encodes (60 ∷ (k.back ++ k.done)),
    )

-- and a number of reads fit
pub reads_fit : (reads attempts n text : ℕ) → n < 2 ^ 64 → attempts + 1 ≤ n
    → reads ≤ attempts * (n + 1) → text ≤ n → reads + text + 1 < 2 ^ 128
reads_fit reads attempts n text small few some less =
    let most : attempts * (n + 1) ≤ attempts * 2 ^ 64 = mul-le-mul_left attempts (omega arith) in
    omega (arith, most)

pub reads_more : (reads now attempts n text : ℕ) → reads ≤ attempts * (n + 1) → text ≤ n
    → now ≤ reads + text + 1 → now ≤ (attempts + 1) * (n + 1)
reads_more reads now attempts n text some less more = grind arith

-- the source ends with the text from there on
pub ends_source : (source before text : List ℕ) (spans : List Span) (attempts : ℕ)
    → Cut source before spans attempts → text ≡ drop (length before) source
    → EndsWith (chars source) (chars text)
ends_source source before text spans attempts k e =
    (chars before, k.parts ∙ ap (λ x. chars before ++ x) (sym (ap chars e ∙ k.text)))

-- what was tried, where no list begins
pub tried_none : (source before text : List ℕ) (spans : List Span) (attempts : ℕ)
    → Cut source before spans attempts → text ≡ drop (length before) source
    → NoTemplate (Template (length source)) (chars text)
    → Done (length source) (chars source) (chars before) spans (attempts + 1)
tried_none source before text spans attempts k e none = record {
  following = 60 ∷ (k.back ++ k.done);
  parts = k.parts;
  lists = none_more (length source) spans k.back k.done k.clear
      (λ end ends. let list = subst (λ x. ListEnds (length source) x end)
      (sym (ap chars e ∙ k.text)) ends in none list.0 list.1 list.2) k.lists;
  few = omega (arith, k.few, one_sign_more k.back k.done);
}

-- and where one does
pub tried_one : (source before text : List ℕ) (spans now : List Span) (attempts start at : ℕ)
    → Cut source before spans attempts → text ≡ drop (length before) source
    → ListEnds (length source) (chars text) at → start ≡ length before
    → now ≡ spans ++ record { start = start; end = at } ∷ []
    → Done (length source) (chars source) (chars before) now (attempts + 1)
tried_one source before text spans now attempts start at k e one s more =
    let first : start ≡ place (length source) (60 ∷ (k.back ++ k.done)) = s ∙ k.at in
    let list = subst (λ x. ListEnds (length source) x at) (ap chars e ∙ k.text) one in
    let all = one_more (length source) spans k.back k.done at k.clear k.fits (λ end. (
      (λ q. subst (ListEnds (length source) (60 ∷ (k.back ++ k.done))) q list),
      (λ ends. one_end (length source) (60 ∷ (k.back ++ k.done)) at end list ends),
    )) k.lists in
    record {
      following = 60 ∷ (k.back ++ k.done);
      parts = k.parts;
      lists = subst (λ x. AreLists (length source) x (60 ∷ (k.back ++ k.done)))
          (sym (more ∙ ap (λ x. spans ++ record { start = x; end = at } ∷ []) first)) all;
      few = omega (arith, k.few, one_sign_more k.back k.done);
    }

-- what a list begins with, and where the text after it does
list_place : (total : ℕ) (text from after end : List ℕ) (kind : Kind) (at : ℕ) → width after ≤ total
    → raw text ≡ token kind from after → kind.class ≡ SymLessThan → EndsAt total after end
    → at ≡ place total end → ListEnds total text (at + 1)
list_place total text from after end kind at fits e less k p = (
  marked total from after k.0 end,
  drop 1 end,
  front_list total text from after end kind e less k,
  omega (arith, p, end_place total after k.0 end fits k.1),
)

-- what was found of the `<`
pub tried_found : (source before text : List ℕ) (spans now : List Span) (attempts start : ℕ)
    (pieces : List Piece) (from after : List ℕ) (kind : Kind) (f : Finding)
    → Cut source before spans attempts → text ≡ drop (length before) source
    → raw (chars text) ≡ token kind from after → kind.class ≡ SymLessThan
    → width after ≤ length source → IsFinding (length source) pieces after f → start ≡ length before
    → now ≡ spans ++ begun_list start f
    → Done (length source) (chars source) (chars before) now (attempts + 1)
tried_found source before text spans now attempts start pieces from after kind Around k e r less fits h s more =
    subst (λ (x : List Span). Done (length source) (chars source) (chars before) x (attempts + 1))
    (sym (more ∙ append-nil spans)) (tried_none source before text spans attempts k e
    (none_begins (length source) (chars text) from after kind r (λ l. h.0)))
tried_found source before text spans now attempts start pieces from after kind
    (GoesOn false at b c) k e r less fits (end, p, none, g) s more =
    subst (λ (x : List Span). Done (length source) (chars source) (chars before) x (attempts + 1))
    (sym (more ∙ append-nil spans)) (tried_none source before text spans attempts k e
    (none_begins (length source) (chars text) from after kind r (λ l. none)))
tried_found source before text spans now attempts start pieces from after kind
    (GoesOn true at b c) k e r less fits (end, p, list, g) s more =
    tried_one source before text spans now attempts start (at + 1) k e
    (list_place (length source) (chars text) from after end kind at fits r less list p) s more

-- its `>` is in the source
pub greater_fits : (total : ℕ) (pieces : List Piece) (after : List ℕ) (f : Finding)
    → width after ≤ total → IsFinding total pieces after f → 0 < total → greater_place f + 1 ≤ total
greater_fits total pieces after Around fits h some = omega (arith, some)
greater_fits total pieces after (GoesOn false at b c) fits h some = omega (arith, some)
greater_fits total pieces after (GoesOn true at b c) fits (end, p, (ts, i, l), g) some =
    omega (arith, p, end_place total after ts end fits i)

-- how many lists that are
pub listed_costs : (start : ℕ) (f : Finding)
    → (costs (Some f) ≡ 2 * length (begun_list start f)) × (length (begun_list start f) ≤ 1)
listed_costs start Around = (refl, omega arith)
listed_costs start (GoesOn false at b c) = (refl, omega arith)
listed_costs start (GoesOn true at b c) = (refl, omega arith)

-- after what has no `<`, all lists are known
pub all_done : (source left : List ℕ) (spans : List Span) (attempts : ℕ) → IsUtf8 source → IsUtf8 left
    → NoCharPasses (λ d. d == 60) left → Done (length source) (chars source) (chars left) spans attempts
    → AreLists (width (chars source)) spans (chars source)
all_done source left spans attempts u v n d =
    subst (λ t. AreLists t spans (chars source)) (sym (bytes_width source u))
    (subst (AreLists (length source) spans) (sym d.parts)
    (all_lists (length source) spans (chars left) d.following (no_less left v n) d.lists))
