use Rattle.std.proofs.Common.{string_bytes}
use Rattle.std.proofs.lemmas.List.Filters.{dedup_is}
use Rattle.std.proofs.lemmas.List.Kept.{IsStrictlySortedBy-dedup}
use Rattle.std.specs.Cmp.Lexicographic.{on_texts, texts_ties}
use Rattle.wgsl_files.proofs.Listings.{ordered_texts}
use Rattle.wgsl_files.proofs.walk.below.Goals as goal

pub returns-clause-ordered : goal.returns-clause-ordered
returns-clause-ordered g c =
    rw (dedup_is _ _ _ c.dedup.ensures.filtered)
    (ordered_texts string_bytes _ (IsStrictlySortedBy-dedup (on_texts string_bytes)
    (λ x y. texts_ties (string_bytes x) (string_bytes y)) _ c.sort_unstable.ensures.sorted))
