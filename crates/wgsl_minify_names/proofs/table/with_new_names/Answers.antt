use Rattle.std.proofs.Common.{◌≡◌, ◌<◌, ◌≤◌, ℕ, List, [], ◌∷◌, ◌++◌, All, sym, ap, subst, ◌∙◌, arith, ◌+◌, take}
use Rattle.std.specs.Prelude.{string_bytes}
use Rattle.std.specs.List.{AllPairs}
use Rattle.std.specs.Map.{keys_of}
use Rattle.std.proofs.lemmas.List.Elements.{All-push}
use Rattle.std.proofs.lemmas.List.Quantifiers.{all_pairs_push}
use Rattle.wgsl_model_minify.specs.Chosen.{AreLetters}
use Rattle.wgsl_minify_names.specs.Short.{number_of, IsFresh, NoneFree}
use Rattle.wgsl_minify_names.specs.View.{table_view, texts}
use Rattle.wgsl_minify_names.proofs.Growing.{grown, names_grown}
use Rattle.wgsl_minify_names.proofs.Taken.{none_free_more}
use Rattle.wgsl_minify_names.proofs.table.with_new_names.Goals as goal

abbrev Pair : Type 0
Pair = List ℕ × List ℕ

pub loop-name-preserved : goal.loop-name-preserved
loop-name-preserved c =
    let table = table_view c.loop-name.table.items in
    let pair : Pair = (string_bytes c.in_ok-from_str.field-0, string_bytes c.in_ok-number.new) in
    let e : table ++ pair ∷ [] ≡ table_view c.push.new.self.items =
    sym (ap table_view c.in_ok-push.ensures.items ∙ grown _ _) in
    let known = c.loop-name.invariant in
    let short = c.in_ok-number.ensures.short in
    let later = c.in_ok-number.ensures.later in
    let number = short.numbered in
    record {
      names = subst (λ t. keys_of t ≡ texts (take (c.loop-name.name-index + 1) c.args.names.now)) e
          (names_grown table pair c.args.names.now c.loop-name.name-index
          (record { ref_ptr = (0, 0); now = [] }) c.loop-name-test.true known.names c.in_ok-from_str.ensures.ok);
      fresh = subst (All (λ p. IsFresh (texts c.args.taken.now.keys) p.1)) e
          (All-push (λ (p : Pair). IsFresh (texts c.args.taken.now.keys) p.1) table pair known.fresh
          c.in_ok-number.ensures.fresh);
      letters = subst (All (λ p. AreLetters p.1)) e
          (All-push (λ (p : Pair). AreLetters p.1) table pair known.letters short.letters);
      rising = subst (AllPairs (λ p q. number_of p.1 < number_of q.1)) e
          (all_pairs_push (λ (p q : Pair). number_of p.1 < number_of q.1) table pair known.rising
          (λ k d lt. let low = known.low k d lt in omega arith));
      used = subst (λ t. NoneFree (texts c.args.taken.now.keys) t c.in_ok-number.number) e
          (none_free_more (texts c.args.taken.now.keys) table pair c.loop-name.last c.in_ok-number.number known.used
          c.in_ok-number.ensures.skipped short later);
      low = subst (All (λ p. number_of p.1 ≤ c.in_ok-number.number)) e
          (All-push (λ (p : Pair). number_of p.1 ≤ c.in_ok-number.number) table pair
          (λ k d lt. let low = known.low k d lt in omega arith) (omega arith));
    }
