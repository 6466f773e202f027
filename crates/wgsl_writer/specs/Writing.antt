-- What a writer that indents takes.
use Rattle.std.specs.Prelude.{ℕ, ◌+◌, ◌-◌, ◌≡◌, List, Result, IsOk}
use Rattle.std.specs.Fmt.{HasWritten, IsPlainFormatter}
use Rattle.std.specs.declared.fmt.Error.{Error}
use Rattle.wgsl_model.specs.Printed.Indentation.{after_line_ends}
use Rattle.wgsl_writer.specs.declared.indented.Indented.{Indented}
use Rattle.wgsl_writer.specs.Depth.{spaces}

-- the text was written with the spaces of the depth after each LF, and the depth is what it
-- was
pub record Wrote {W : Type 0} (took : W → List ℕ → W → Type 0) (before : Indented W) (text : List ℕ)
    (after : Indented W) : Type 0 where
  pub depth : after.depth ≡ before.depth
  pub lent : after.to.ghost_name ≡ before.to.ghost_name
  pub written : IsPlainFormatter before.to.now
      → HasWritten took before.to.now (after_line_ends (spaces before.depth) text) after.to.now

-- the same if all was taken
abbrev pub WritesInto : {W : Type 0} → (W → List ℕ → W → Type 0) → Indented W
    → Result (Unit {0}) Error → List ℕ → Indented W → Type 0
WritesInto took before result text after = IsOk result → Wrote took before text after

-- what follows is indented by one level more
abbrev pub IsDeeper : {W : Type 0} → Indented W → Indented W → Type 0
IsDeeper before after = (after.depth ≡ before.depth + 1) × (after.to ≡ before.to)

-- what follows is indented by one level less
abbrev pub IsBack : {W : Type 0} → Indented W → Indented W → Type 0
IsBack before after = (after.depth ≡ before.depth - 1) × (after.to ≡ before.to)
