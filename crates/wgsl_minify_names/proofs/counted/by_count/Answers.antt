use Rattle.std.proofs.Common.{◌≡◌, ◌≤◌, ◌<◌, ◌∙◌, ℕ, List, length, get_or, is_lt, nat_cmp, IsSortedBy, rules, ap, sym, subst}
use Rattle.std.specs.Prelude.{bytes_eq}
use Rattle.std.specs.Cmp.{nat_cmp_total}
use Rattle.std.proofs.lemmas.List.Sorted.{answers_always, sorted_far, ranks_by, IsStrictWeakOrder-flip}
use Rattle.std.proofs.lemmas.Map.Keys.{ge_from_not_lt}
use Rattle.std.specs.List.{IsDistinct, AllPairs}
use Rattle.wgsl_minify_names.specs.Counts.{count_in, found_in, ComesBefore}
use Rattle.wgsl_minify_names.specs.InScope.{is_in}
use Rattle.wgsl_minify_names.specs.View.{texts}
use Rattle.wgsl_minify_names.proofs.Ranked.{Entry, counts_more, same_names, texts_once, ordered_names}
use Rattle.wgsl_minify_names.proofs.counted.by_count.Goals as goal

falls : (es : List Entry) → IsSortedBy counts_more es
    → (i j : ℕ) (d : Entry) → i ≤ j → j < length es → (get_or es j d).1 ≤ (get_or es i d).1
falls es sorted i j d le lt = ge_from_not_lt (get_or es i d).1 (get_or es j d).1
    (sorted_far counts_more
    (IsStrictWeakOrder-flip (λ (x y : Entry). is_lt (nat_cmp x.1 y.1))
    (ranks_by nat_cmp_total (λ (e : Entry). e.1))) es sorted i j d le lt)

sorted_counts : (c : goal.In_ok-found) → (x : List ℕ)
    → found_in c.sort_by_key.new.self.entries x ≡ count_in (texts c.args.names.now) x
sorted_counts c x = c.in_ok-sort_by_key.ensures.reordered.2 (record { ref_ptr = (0, 0); now = x })
    ∙ c.in_ok-counts.ensures.counts x

pub returns-clause-same : goal.returns-clause-same
returns-clause-same c = λ x. ap (λ ks. is_in x (texts ks)) c.in_ok-found.ensures
    ∙ same_names (texts c.args.names.now) c.sort_by_key.new.self.entries (sorted_counts c) x

pub returns-clause-once : goal.returns-clause-once
returns-clause-once c = subst (λ ks. IsDistinct bytes_eq (texts ks)) (sym c.in_ok-found.ensures)
    (texts_once _ c.in_ok-sort_by_key.ensures.unique)

pub returns-clause-ordered : goal.returns-clause-ordered
returns-clause-ordered c =
    let names = texts c.args.names.now in
    let sorted = c.in_ok-sort_by_key.ensures in
    let es = c.sort_by_key.new.self.entries in
    subst (λ ks. AllPairs (ComesBefore names) (texts ks)) (sym c.in_ok-found.ensures)
    (ordered_names names c.in_ok-counts.counts.entries es (sorted_counts c) sorted.unique
    (falls es (sorted.sorted (λ e. record { 0 = e.1 }) (answers_always _ _ _ (λ f a r g k. search rules))))
    c.in_ok-counts.ensures.placed
    (sorted.stable (λ e. record { 0 = e.1 }) (answers_always _ _ _ (λ f a r g k. search rules))))
