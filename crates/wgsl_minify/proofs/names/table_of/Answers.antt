use Rattle.std.proofs.Common.{◌≡◌, ◌++◌, ◌∷◌, [], ℕ, List, rules, sym, ap, subst, ◌∙◌, append_assoc, string_bytes, bytes_eq}
use Rattle.std.specs.List.{IsDistinct}
use Rattle.std.specs.Map.{keys_of}
use Rattle.std.specs.Vec.Iter.{into_iter_items}
use Rattle.wgsl_minify_names.specs.View.{table_view}
use Rattle.wgsl_tree_renamed.specs.NewNames.{pairs}
use Rattle.wgsl_minify.proofs.Tables.{absent}
use Rattle.wgsl_minify.proofs.names.table_of.Goals as goal

-- the next pair is inserted after those before it
pub pairs-preserved : goal.pairs-preserved
pairs-preserved c =
    let name = string_bytes c.in-Some.name in
    let new = string_bytes c.in-Some.new_name in
    let before = pairs c.pairs.names in
    let after = table_view (into_iter_items c.next.new.self) in
    let next : into_iter_items c.pairs.name-iterator
    ≡ (c.in-Some.name, c.in-Some.new_name) ∷ into_iter_items c.next.new.self = search rules in
    let seen : table_view (into_iter_items c.pairs.name-iterator) ≡ (name, new) ∷ after = ap table_view next in
    let once : IsDistinct bytes_eq (keys_of (before ++ ((name, new) ∷ after))) =
    subst (λ (left : List (List ℕ × List ℕ)). IsDistinct bytes_eq (keys_of (before ++ left))) seen
    c.pairs.invariant.once in
    let inserted : pairs c.insert.new.self ≡ before ++ ((name, new) ∷ []) =
    c.in_ok-insert.ensures.added (absent before name new after once) in
    let same : pairs c.insert.new.self ++ after ≡ before ++ ((name, new) ∷ after) =
    ap (λ (all : List (List ℕ × List ℕ)). all ++ after) inserted ∙ append_assoc before ((name, new) ∷ []) after in
    record {
      added = same ∙ ap (λ (left : List (List ℕ × List ℕ)). before ++ left) (sym seen) ∙ c.pairs.invariant.added;
      once = subst (λ (all : List (List ℕ × List ℕ)). IsDistinct bytes_eq (keys_of all)) (sym same) once;
      left = search rules;
    }
