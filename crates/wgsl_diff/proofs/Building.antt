-- The lines of a diff as they are put together.
use Rattle.std.proofs.Common.{◌≡◌, ◌⊎◌, ap, ◌∙◌, sym, subst, ℕ, ◌+◌, ◌-◌, ◌<◌, List, [], ◌∷◌, ◌++◌, length, map, take, drop, get_or, append_assoc, arith}
use Rattle.std.proofs.lemmas.List.{at_drop_more, drop-drop, drop-map, length-map, map_more, map_push, take-map}
use Rattle.std.specs.Borrow.{Bor}
use Rattle.wgsl_diff.specs.Diffs as plain
use Rattle.wgsl_diff.specs.View.{line_view, texts_of}
use Rattle.wgsl_diff.specs.Matching.{GoOn, IsBlock}
use Rattle.wgsl_diff.specs.declared.line.Line.{Line}
use Rattle.wgsl_diff.specs.declared.line.Line.TheVariants.{Kept}
use Rattle.wgsl_diff.proofs.Scripts.{Completes, kept_step, change_step}

-- lines of one sign, with one more
pub pushed_more : (code : Bor (List ℕ) → Line) (sign : List ℕ → plain.Line)
    → ((text : Bor (List ℕ)) → line_view (code text) ≡ sign text.now)
    → (first lines made : List Line) (texts : List (Bor (List ℕ))) (i : ℕ) (d : Bor (List ℕ)) → i < length texts
    → made ≡ lines ++ code (get_or texts i d) ∷ []
    → map line_view lines ≡ map line_view first ++ map sign (texts_of (take i texts))
    → map line_view made ≡ map line_view first ++ map sign (texts_of (take (i + 1) texts))
pushed_more code sign is first lines made texts i d within pushed before =
    let one = get_or texts i d in
    let so_far = map sign (texts_of (take i texts)) in
    ap (map line_view) pushed ∙ map_push line_view lines (code one)
    ∙ ap (λ line. map line_view lines ++ line ∷ []) (is one)
    ∙ ap (λ ls. ls ++ sign one.now ∷ []) before
    ∙ append_assoc (map line_view first) so_far (sign one.now ∷ [])
    ∙ ap (λ ls. map line_view first ++ ls) (sym (map_push sign (texts_of (take i texts)) one.now)
    ∙ ap (map sign) (sym (map_more (λ (text : Bor (List ℕ)). text.now) texts i d within)))

-- some texts of those that are left, and the others
part_is : (texts us : List (Bor (List ℕ))) (i n : ℕ) → us ≡ drop i texts
    → texts_of (take (i + n - i) (drop i texts)) ≡ take n (texts_of us)
part_is texts us i n us_is =
    let count : i + n - i ≡ n = omega arith in
    ap (λ k. texts_of (take k (drop i texts))) count
    ∙ sym (take-map (λ (text : Bor (List ℕ)). text.now) n (drop i texts))
    ∙ ap (λ ts. take n (texts_of ts)) (sym us_is)

rest_is : (texts us : List (Bor (List ℕ))) (i n : ℕ) → us ≡ drop i texts
    → drop n (texts_of us) ≡ texts_of (drop (i + n) texts)
rest_is texts us i n us_is =
    drop-map (λ (text : Bor (List ℕ)). text.now) n us ∙ ap (λ ts. texts_of (drop n ts)) us_is
    ∙ ap texts_of (drop-drop n i texts)

module _ (before after : List (Bor (List ℕ))) (i j : ℕ) (lines made : List Line) (more : List plain.Line)
    (all : (rest : List plain.Line) → Completes (texts_of (drop i before)) (texts_of (drop j after)) rest
    → Completes (texts_of before) (texts_of after) (map line_view lines ++ rest)) where
  -- a line that both texts have, and what completes it
  pub next_kept : (d e : Bor (List ℕ)) → i < length before → j < length after
      → (get_or before i d).now ≡ (get_or after j e).now → made ≡ lines ++ Kept (get_or before i d) ∷ []
      → Completes (texts_of (drop (i + 1) before)) (texts_of (drop (j + 1) after)) more
      → Completes (texts_of before) (texts_of after) (map line_view made ++ more)
  next_kept d e within others same pushed completes =
      let text = (get_or before i d).now in
      let old = texts_of (drop (i + 1) before) in
      let new = texts_of (drop (j + 1) after) in
      let rest = plain.kept text ∷ more in
      subst (Completes (texts_of before) (texts_of after))
      (sym (ap (λ ls. map line_view ls ++ more) pushed
      ∙ ap (λ ls. ls ++ more) (map_push line_view lines (Kept (get_or before i d)))
      ∙ append_assoc (map line_view lines) (plain.kept text ∷ []) more))
      (all rest (subst (λ ls. Completes ls (texts_of (drop j after)) rest)
      (sym (at_drop_more texts_of before i d within))
      (subst (λ ls. Completes (text ∷ old) ls rest)
      (sym (at_drop_more texts_of after j e others ∙ ap (λ line. line ∷ new) (sym same)))
      (kept_step text old new more completes))))

  -- lines that one of the texts has, and what completes them
  pub next_change : (us vs : List (Bor (List ℕ))) (middle : List Line) (r a : ℕ)
      → us ≡ drop i before → vs ≡ drop j after
      → map line_view middle
      ≡ map line_view lines ++ map plain.removed (texts_of (take (i + r - i) (drop i before)))
      → map line_view made ≡ map line_view middle ++ map plain.added (texts_of (take (j + a - j) (drop j after)))
      → plain.AreApart (take r (texts_of us)) (take a (texts_of vs)) → ¬ (GoOn (texts_of us) (texts_of vs))
      → GoOn (drop r (texts_of us)) (drop a (texts_of vs)) ⊎ (IsBlock r (length us) × IsBlock a (length vs))
      → Completes (texts_of (drop (i + r) before)) (texts_of (drop (j + a) after)) more
      → Completes (texts_of before) (texts_of after) (map line_view made ++ more)
  next_change us vs middle r a us_is vs_is first second apart other ends completes =
      let gone = map plain.removed (take r (texts_of us)) in
      let come = map plain.added (take a (texts_of vs)) in
      let rest = gone ++ (come ++ more) in
      let left = subst (λ ls. Completes ls (drop a (texts_of vs)) more) (sym (rest_is before us i r us_is))
      (subst (λ ls. Completes (texts_of (drop (i + r) before)) ls more) (sym (rest_is after vs j a vs_is)) completes) in
      let blocks = subst (λ n. GoOn (drop r (texts_of us)) (drop a (texts_of vs))
      ⊎ (IsBlock r n × IsBlock a (length (texts_of vs))))
      (sym (length-map us (λ text. text.now)))
      (subst (λ n. GoOn (drop r (texts_of us)) (drop a (texts_of vs)) ⊎ (IsBlock r (length us) × IsBlock a n))
      (sym (length-map vs (λ text. text.now))) ends) in
      subst (Completes (texts_of before) (texts_of after))
      (sym (ap (λ ls. ls ++ more)
      (second ∙ ap (λ ls. ls ++ map plain.added (texts_of (take (j + a - j) (drop j after)))) first
      ∙ ap (λ ts. (map line_view lines ++ map plain.removed ts)
      ++ map plain.added (texts_of (take (j + a - j) (drop j after)))) (part_is before us i r us_is)
      ∙ ap (λ ts. (map line_view lines ++ gone) ++ map plain.added ts) (part_is after vs j a vs_is))
      ∙ append_assoc (map line_view lines ++ gone) come more ∙ append_assoc (map line_view lines) gone (come ++ more)))
      (all rest (subst (λ ls. Completes (texts_of ls) (texts_of (drop j after)) rest) us_is
      (subst (λ ls. Completes (texts_of us) (texts_of ls) rest) vs_is
      (change_step r a (texts_of us) (texts_of vs) more left apart other blocks))))
