-- What is known after the names of an edited text are compared with those before.
use Rattle.std.proofs.Common.{◌≡◌, ℕ, List, length, map, subst, sym}
use Rattle.wgsl_span.specs.declared.Span.{Span}
use Rattle.wgsl_model_places.specs.Roles.{Event}
use Rattle.wgsl_model_places.specs.Edited.{edited_event}
use Rattle.wgsl_resolve_names.specs.declared.whole.Names.{Names}
use Rattle.wgsl_resolve_names.specs.Found.{AreNames}
use Rattle.wgsl_rename.specs.declared.edit.Edit.{Edit}
use Rattle.wgsl_rename.specs.Changes.{refers}
use Rattle.wgsl_rename.specs.Edits.{IsEditAt, edit_view}
use Rattle.wgsl_rename.specs.Renames.{KeepsReferents, written_at}
use Rattle.wgsl_rename.proofs.Kept.{kept, lost, same_length}
use Rattle.wgsl_rename.proofs.Written.{written}

module _ (edit : Edit) (es fs : List Event) (before after : Names) (made : fs ≡ map (edited_event (edit_view edit)) es)
    (are : AreNames es before) (now : AreNames fs after) where
  found : AreNames (map (edited_event (edit_view edit)) es) after
  found = subst (λ l. AreNames l after) made now

  pub as_long : length before.names.items ≡ length after.names.items
  as_long = same_length (edit_view edit) es before after are found

  pub are_kept : (places : List Span) (text : List ℕ) → IsEditAt places text edit
      → map refers before.names.items ≡ map refers after.names.items → KeepsReferents (written_at places text) es
  are_kept places text is same = subst (λ g. KeepsReferents g es) (written places text edit is)
      (kept (edit_view edit) es before after are found same)

  pub are_lost : (places : List Span) (text : List ℕ) → IsEditAt places text edit
      → KeepsReferents (written_at places text) es → map refers before.names.items ≡ map refers after.names.items
  are_lost places text is keeps = lost (edit_view edit) es before after are found
      (subst (λ g. KeepsReferents g es) (sym (written places text edit is)) keeps)
