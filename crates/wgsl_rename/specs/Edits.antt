-- What an edit writes where.
use Rattle.std.specs.Prelude.{◌≡◌, ℕ, Bool, ◌==◌, if◌then◌else◌, List}
use Rattle.std.specs.List.{list_any}
use Rattle.wgsl_span.specs.declared.Span.{Span}
use Rattle.wgsl_model_places.specs.Edited as plain
use Rattle.wgsl_rename.specs.declared.edit.Edit.{Edit}
use Rattle.wgsl_rename.specs.Renames.{starts_at}

-- one of the places of an edit starts here
abbrev pub is_edited : Edit → ℕ → Bool
is_edited edit start = list_any (λ (other : ℕ). start == other) edit.starts.keys

abbrev pub edit_view : Edit → plain.Edit
edit_view edit name = if is_edited edit name.start then edit.text.now else name.text

-- it writes a text at some places
pub record IsEditAt (places : List Span) (new : List ℕ) (edit : Edit) : Type 0 where
  pub starts : (start : ℕ) → is_edited edit start ≡ starts_at places start
  pub text : edit.text.now ≡ new
