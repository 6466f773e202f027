-- Where the ends of a text are, and the lists at them.
use Rattle.std.proofs.Common.{◌≡◌, ℕ, ◌-◌, ◌<◌, ◌≤◌, List, [], ◌∷◌, ◌++◌, Option, Some, None, drop, length, chars, Bor, refl, sym, ap, subst, ◌∙◌, append_assoc, arith}
use Rattle.std.proofs.lemmas.Str.{IsCharBoundary-end}
use Rattle.std.proofs.lemmas.List.{length-append}
use Rattle.std.specs.Bool.{⊤}
use Rattle.std.specs.Option.{MatchOption}
use Rattle.std.specs.Str.Pattern.{GetsRange}
use Rattle.std.specs.Str.{IsUtf8, IsCharBoundary}
use Rattle.grammar.specs.Tokens.{Token}
use Rattle.wgsl_model.specs.Tokens.Kind.{Kind}
use Rattle.wgsl_model.specs.Tokens.Raw.{raw, token}
use Rattle.wgsl_model.specs.Tokens.Places.{place, width}
use Rattle.wgsl_model.specs.Tokens.Templates.{Template, NoTemplate, Enclosed, enclosed}
use Rattle.wgsl_span.specs.declared.Span.{Span}
use Rattle.wgsl_theory_grammar.proofs.Tokens.Cuts.{EndsWith, EndsPast, cut_at, after_first}
use Rattle.wgsl_theory_grammar.proofs.Tokens.Places.{bytes_width, cut_end, gets_bytes, gets_end}
use Rattle.wgsl_theory_grammar.proofs.Tokens.Widths.{within, past}
use Rattle.wgsl_theory_grammar.proofs.Tokens.Bounds.{template_is, template_leaves, inside_leaves}
use Rattle.wgsl_lex_templates.specs.Spans.{end_from}
use Rattle.wgsl_lex_templates.specs.TemplateEnds.{SkipsList}
use Rattle.wgsl_lex_templates.specs.Lists.{ListEnds, TellLists}

-- what says where the lists of a text are says it of its ends
pub tell_end : (total : ℕ) (spans : List Span) (text rest : List ℕ) → EndsWith text rest
    → TellLists total spans text → TellLists total spans rest
tell_end total spans text rest h tell before following end e = tell (h.0 ++ before) following end
    (h.1 ∙ ap (λ x. h.0 ++ x) e ∙ sym (append_assoc h.0 before (60 ∷ following)))

-- what follows a token is an end of what follows the first character
pub after_past : (text from after : List ℕ) (kind : Kind) → raw text ≡ token kind from after
    → EndsWith (drop 1 text) after
after_past text from after kind e = let cut = cut_at text from after kind e in go text cut.0 cut.1 where
  go : (text : List ℕ) → EndsWith text from → EndsPast from after → EndsWith (drop 1 text) after
  go [] (before, h) (c, more, k) =
      let none : [] ≡ before ++ ((c ∷ more) ++ after) = h ∙ ap (λ x. before ++ x) k in
      absurd (omega (arith, ap length none, length-append before ((c ∷ more) ++ after)))
  go (b ∷ text) ([], h) (c, more, k) = let tails : text ≡ more ++ after = cc in (more, tails)
  go (b ∷ text) (d ∷ before, h) (c, more, k) =
      let tails : text ≡ before ++ from = cc in
      (before ++ (c ∷ more), tails ∙ ap (λ x. before ++ x) k ∙ sym (append_assoc before (c ∷ more) after))

-- ---- what is found of the text itself
-- the list that was found
pub found_ends : (total : ℕ) (spans : List Span) (text following : List ℕ) (start end : ℕ)
    → TellLists total spans text → text ≡ 60 ∷ following → start ≡ place total text
    → Some end ≡ end_from spans start → ListEnds total text end
found_ends total spans text following start end tell first s e =
    subst (λ x. ListEnds total x end) (sym first)
    ((tell [] following end first).0 (ap (end_from spans) (ap (place total) (sym first) ∙ sym s) ∙ sym e))

-- or none
pub none_found : (total : ℕ) (spans : List Span) (text following : List ℕ) (start : ℕ)
    → TellLists total spans text → text ≡ 60 ∷ following → start ≡ place total text
    → None ≡ end_from spans start → NoTemplate (Template total) text
none_found total spans text following start tell first s e ts rest q =
    let some = (tell [] following (place total rest) first).1
    (subst (λ x. ListEnds total x (place total rest)) first (ts, rest, q, refl)) in
    let at : end_from spans start ≡ Some (place total rest) = ap (end_from spans) (s ∙ ap (place total) first) ∙ some in
    let no : Some (place total rest) ≡ None = sym at ∙ sym e in cc

-- ---- the text after a list that was found
-- the list ends after its start
pub ends_after : (total : ℕ) (text : List ℕ) (end : ℕ) → ListEnds total text end → place total text ≤ end
ends_after total text end (ts, rest, q, e) = omega (arith, e, within text rest (template_leaves total text ts rest q))

-- less is left after a list
pub list_narrower : (total : ℕ) (text : List ℕ) (ts : List Token) (rest : List ℕ)
    → Template total text ts rest → width rest < width text
list_narrower total text ts rest q = go text ts rest ((template_is total text ts rest).0 q) where
  go : (text : List ℕ) (ts : List Token) (rest : List ℕ)
      → Enclosed total (Template total) text ts rest → width rest < width text
  go text ts rest (enclosed t from after end kind us v r c i d) =
      let cut = cut_at text from after kind r in
      omega (
        arith,
        within text from cut.0,
        past from after cut.1,
        within after end (inside_leaves total (Template total) (template_leaves total) 0 after us end i),
        within end (drop 1 end) (after_first end),
      )

skipped_at : (total : ℕ) (bs : List ℕ) (n : ℕ) (before rest : List ℕ) (ts : List Token)
    (r : Option (Bor (List ℕ))) → IsUtf8 bs → chars bs ≡ before ++ rest
    → Template total (chars bs) ts rest → n ≡ width before → GetsRange bs n (length bs) r
    → SkipsList total (chars bs) r × MatchOption r ⊤ (λ x. length x.now < length bs)
skipped_at total bs n before rest ts None u e q at gets =
    let cut = cut_end bs before rest u e in
    absurd (gets (omega (arith, at, cut.3)) (subst (IsCharBoundary bs) (sym at) cut.2) (IsCharBoundary-end bs))
skipped_at total bs n before rest ts (Some x) u e q at gets =
    let cut = cut_end bs before rest u e in
    let same : chars x.now ≡ rest = gets_end bs n rest x u (before, e) (omega (arith, at, cut.3)) gets in (
      (ts, subst (λ y. Template total (chars bs) ts y) (sym same) q),
      omega (
        arith,
        ap length (gets_bytes bs n rest x u (before, e) (omega (arith, at, cut.3)) gets),
        list_narrower total (chars bs) ts rest q,
        bytes_width bs u,
      ),
    )

pub skipped : (total : ℕ) (bs : List ℕ) (start end : ℕ) (r : Option (Bor (List ℕ))) → IsUtf8 bs
    → length bs ≤ total → start ≡ place total (chars bs) → ListEnds total (chars bs) end
    → GetsRange bs (end - start) (length bs) r
    → SkipsList total (chars bs) r × MatchOption r ⊤ (λ x. length x.now < length bs)
skipped total bs start end r u fits s (ts, rest, q, e) gets =
    let leaves = template_leaves total (chars bs) ts rest q in
    let cut = cut_end bs leaves.0 rest u leaves.1 in
    let size = bytes_width bs u in
    let at : end - start ≡ width leaves.0 = omega (arith, s, e, size, cut.3, fits) in
    skipped_at total bs (end - start) leaves.0 rest ts r u leaves.1 q at gets
