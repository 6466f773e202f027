use Rattle.std.proofs.Common.{◌≡◌, ◌∙◌, ℕ, ◌+◌, List, [], ◌∷◌, ◌++◌, ap, sym, subst, arith, Some, get_or, take}
use Rattle.std.specs.Prelude.{unwrap_or}
use Rattle.std.specs.Borrow.{Bor}
use Rattle.std.proofs.lemmas.Map.Text.{hash_map_updates_str}
use Rattle.std.proofs.lemmas.Grind.{take_at_read}
use Rattle.std.proofs.lemmas.List.{take_all}
use Rattle.std.specs.List.{AllPairs}
use Rattle.std.specs.Map.{keys_of as map_keys}
use Rattle.indexmap.specs.IndexMap.{keys}
use Rattle.indexmap.proofs.SetLemmas.{keys_insert_entry}
use Rattle.wgsl_minify_names.specs.Counts.{found_in, same_text, IsFirstBefore}
use Rattle.wgsl_minify_names.specs.InScope.{with_name}
use Rattle.wgsl_minify_names.specs.View.{texts}
use Rattle.wgsl_minify_names.proofs.Lists.{texts-append, texts-insert_key}
use Rattle.wgsl_minify_names.proofs.Places.{firsts_more}
use Rattle.wgsl_minify_names.proofs.Ranked.{same_names}
use Rattle.wgsl_minify_names.proofs.Tallies.{counted_few, counted_more}
use Rattle.wgsl_minify_names.proofs.counted.counts_of.Goals as goal

pub overflow_add-count : goal.overflow_add-count
overflow_add-count c =
    let name = get_or c.args.names.now c.loop-name.name-index (record { ref_ptr = (0, 0); now = [] }) in
    let few = counted_few c.args.names.now c.loop-name.name-index name.now (found_in c.loop-name.counts.entries)
    c.loop-name.invariant.counts c.unwrap_or-count.result
    (c.unwrap_or-count.ensures ∙ ap (λ o. unwrap_or o 0) (c.copied.ensures ∙ c.get.ensures.value)) in
    omega arith

pub loop-name-preserved : goal.loop-name-preserved
loop-name-preserved c =
    let none : Bor (List ℕ) = record { ref_ptr = (0, 0); now = [] } in
    let i = c.loop-name.name-index in
    let name = get_or c.args.names.now i none in
    let known = c.loop-name.invariant in
    let before = texts (take i c.args.names.now) in
    let more : before ++ name.now ∷ [] ≡ texts (take (i + 1) c.args.names.now) =
    sym (ap texts (take_at_read c.args.names.now i none c.loop-name-test.true).1
    ∙ texts-append (take i c.args.names.now) (name ∷ [])) in
    let keys_now : texts (keys c.insert.new.self) ≡ with_name (texts (keys c.loop-name.counts)) name.now =
    ap (λ es. texts (map_keys es)) c.in_ok-insert.ensures.entries
    ∙ ap texts (keys_insert_entry same_text c.loop-name.counts.entries name (c.unwrap_or-count.result + 1))
    ∙ texts-insert_key (keys c.loop-name.counts) name in
    record {
      counts = λ x. hash_map_updates_str name.now c.loop-name.counts c.insert.new.self
          (Some (c.unwrap_or-count.result + 1))
          c.in_ok-insert.ensures.updates x
          ∙ counted_more c.args.names.now c.loop-name.name-index none c.loop-name-test.true
          (found_in c.loop-name.counts.entries) c.loop-name.invariant.counts c.unwrap_or-count.result
          (c.unwrap_or-count.ensures ∙ ap (λ o. unwrap_or o 0) (c.copied.ensures ∙ c.get.ensures.value)) x;
      once = c.in_ok-insert.ensures.unique;
      placed = subst (λ names. AllPairs (IsFirstBefore names) (texts (keys c.insert.new.self))) more
          (subst (AllPairs (IsFirstBefore (before ++ name.now ∷ []))) (sym keys_now)
          (firsts_more before (texts (keys c.loop-name.counts)) name.now
          (same_names before c.loop-name.counts.entries known.counts) known.placed));
    }

pub returns-clause-placed : goal.returns-clause-placed
returns-clause-placed c =
    let names = c.args.names.now in
    subst (λ l. AllPairs (IsFirstBefore (texts l)) (texts (keys c.loop-name.counts)))
    (take_all c.loop-name.name-index names c.loop-name-test.false) c.loop-name.invariant.placed
