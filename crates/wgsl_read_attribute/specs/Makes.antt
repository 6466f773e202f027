-- What checks make of arguments.
use Rattle.std.specs.Prelude.{◌≡◌, ℕ, List, Result, Ok, Err}
use Rattle.wgsl_model.specs.Grammar.Checks.{Checked, right, wrong}
use Rattle.wgsl_read_attribute.specs.declared.arguments.Refusal.{Refusal}
use Rattle.wgsl_read_attribute.specs.declared.arguments.Refusal.TheVariants as refusal

-- What a function returned for a name, seen by view, is what a check says, unless memory ran out.
abbrev pub Makes : {X Y : Type 0} → List ℕ → (X → Y) → Result X Refusal → Checked Y → Type 0
Makes name view (Ok x) checked = checked ≡ right (view x)
Makes name view (Err (refusal.Arguments known text)) checked = (known.now ≡ name) × (checked ≡ wrong text.now)
Makes name view (Err refusal.OutOfMemory) checked = Unit {0}
