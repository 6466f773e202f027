use Rattle.std.proofs.Common.{rules, ℕ, zero, suc, ◌≡◌, refl, sym, ◌∙◌, ap, max, List, [], ◌∷◌, ◌++◌, length, codes, replicate, append_assoc}
use Rattle.std.proofs.Output.{has_written_append, has_written_of_eq}
use Rattle.std.proofs.lemmas.Str.{encodes-append, encodes-chars}
use Rattle.std.specs.List.{concat, before_first, after_last}
use Rattle.std.specs.Str.{chars, encode_utf8_all, IsUtf8}
use Rattle.grammar.specs.Tokens.{Span}
use Rattle.wgsl_model.specs.Faults.Snippets.{is_line_feed, text_from, line_front, line_text, mark_count}
use Rattle.wgsl_span.specs.View.{span_view}
use Rattle.wgsl_error.specs.Places.{marked_line}
use Rattle.wgsl_error.proofs.snippet.write_marked_line.Goals as goal

-- a byte a number of times
repeated : (n b : ℕ) → concat (replicate n (b ∷ [])) ≡ replicate n b
repeated zero b = refl
repeated (suc n) b = ap (λ bs. b ∷ bs) (repeated n b)

-- the parts in the groups of the definition
regrouped : (f b n s k : List ℕ) → ((f ++ (b ++ n)) ++ s) ++ k ≡ (f ++ b) ++ n ++ (s ++ k)
regrouped f b n s k = simp append_assoc

-- a text of these parts
abbrev told : ℕ → List ℕ → ℕ → List ℕ
told spaces shown carets = shown ++ codes "\n" ++ (replicate spaces 32 ++ replicate carets 94)

-- what the writes give is the marked line, if they are given its parts
written : (source : List ℕ) (span : Span) (front back : List ℕ) (spaces carets : ℕ) → IsUtf8 front
    → IsUtf8 back
    → chars front ≡ line_front source span → chars back ≡ before_first is_line_feed (text_from source span)
    → spaces ≡ length (chars front) → carets ≡ max (mark_count source span) 1
    → ((front ++ (back ++ codes "\n")) ++ concat (replicate spaces (codes " ")))
    ++ concat (replicate carets (codes "^")) ≡ marked_line source span
written source span front back spaces carets utf8_front utf8_back front_is back_is spaces_is carets_is =
    let shown : front ++ back ≡ encode_utf8_all (line_text source span) =
    sym (ap (λ cs. encode_utf8_all (cs ++ before_first is_line_feed (text_from source span)))
    (sym front_is) ∙ ap (λ cs. encode_utf8_all (chars front ++ cs)) (sym back_is)
    ∙ encodes-append (chars front) (chars back) ∙ ap (λ bs. bs ++ encode_utf8_all (chars back))
    (encodes-chars front utf8_front) ∙ ap (λ bs. front ++ bs) (encodes-chars back utf8_back)) in
    let top = front ++ (back ++ codes "\n") in
    ap (λ bs. (top ++ bs) ++ concat (replicate carets (codes "^"))) (repeated spaces 32)
    ∙ ap (λ bs. (top ++ replicate spaces 32) ++ bs) (repeated carets 94)
    ∙ regrouped front back (codes "\n") (replicate spaces 32) (replicate carets 94)
    ∙ ap (λ n. told n (front ++ back) carets) (spaces_is ∙ ap length front_is)
    ∙ ap (λ bs. told (length (line_front source span)) bs carets) shown
    ∙ ap (told (length (line_front source span)) (encode_utf8_all (line_text source span))) carets_is

pub returns : goal.returns
returns g c = λ plain ok.
    let span = span_view c.args.span in
    let source = chars c.args.source.now in
    let front = c.after_last_line_feed-front in
    let back = c.before_first_line_feed-back in
    let marked_is : c.char_count.result ≡ mark_count source span = c.char_count.ensures.count
    ∙ ap length (c.before_first_line_feed.ensures ∙ ap (before_first is_line_feed) c.cut.ensures.spanned) in
    let one = c.writeln.ensures.writes plain (search rules) in
    let two = c.write_times.ensures one.plain (search rules) in
    let three = c.write_times-2.ensures two.plain ok in
    let whole = has_written_append _ _ _ _ _ _ (has_written_append _ _ _ _ _ _ one two) three in
    has_written_of_eq g.W.Write.write_str_gives c.args.f.now _ (marked_line source span) c.write_times-2.new.f
    (written source span front.result.now back.result.now c.char_count-spaces.result
    c.max-carets.result front.utf8 back.utf8
    (front.ensures ∙ ap (after_last is_line_feed) c.cut.ensures.before)
    (back.ensures ∙ ap (before_first is_line_feed) c.cut.ensures.rest)
    c.char_count-spaces.ensures.count
    (c.max-carets.ensures ∙ ap (λ n. max n 1) marked_is))
    whole
