-- What is told of a text, by what happens to names in it.
use Rattle.std.proofs.Common.{ℕ, List, inl, subst}
use Rattle.wgsl_model_places.specs.Roles.{Event}
use Rattle.wgsl_span.specs.declared.Span.{Span}
use Rattle.wgsl_read_names.specs.Texts.{AreEventsOf}
use Rattle.wgsl_rename.specs.declared.error.RenameError.{RenameError}
use Rattle.wgsl_rename.specs.declared.error.RenameError.TheVariants.{Fault, Refused}
use Rattle.wgsl_rename.specs.Renames.{IsRefused, IsRenaming}
use Rattle.wgsl_read_rename.specs.Renamed.{IsRefusedOf, IsRenamingOf}

pub is_renaming : (source : List ℕ) (place : ℕ) (new : List ℕ) (found : List Event) (places : List Span)
    → AreEventsOf source found → IsRenaming found place new places → IsRenamingOf source place new places
is_renaming source place new found places (ts, tokens, sentence, is) renaming =
    (ts, tokens, sentence, subst (λ es. IsRenaming es place new places) is renaming)

pub is_refused : (source : List ℕ) (place : ℕ) (new : List ℕ) (found : List Event) → AreEventsOf source found
    → (e : RenameError) → IsRefused found place new e → IsRefusedOf source place new e
is_refused source place new found of (Fault error) memory = inl memory
is_refused source place new found (ts, tokens, sentence, is) (Refused reason span) refused =
    (ts, tokens, sentence, subst (λ es. IsRefused es place new (Refused reason span)) is refused)
