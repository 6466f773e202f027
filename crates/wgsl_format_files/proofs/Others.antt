-- What a run leaves alone.
use Rattle.std.proofs.Common.{◌≢◌, refl, sym, ◌∙◌, subst, ℕ, List, [], ◌∷◌}
use Rattle.wgsl_format_options.specs.Options.{Source, standard_input, path}
use Rattle.wgsl_format_options.specs.declared.options.Mode.{Mode}
use Rattle.wgsl_format_options.specs.declared.options.Mode.TheVariants.{Write, Check, Diff}
use Rattle.wgsl_files.specs.declared.status.Status.{Status}
use Rattle.wgsl_files.specs.Files.{Files, Same}
use Rattle.wgsl_files.specs.Rewriting.{Written, ChangesOnly}
use Rattle.wgsl_files.proofs.Runs.{same_same, same_changes}
use Rattle.wgsl_format_files.specs.declared.event.Event.{Event}
use Rattle.wgsl_format_files.specs.declared.event.Event.TheVariants as event
use Rattle.wgsl_format_files.specs.Events.{store_mode_of}
use Rattle.wgsl_format_files.specs.Files.{ComesOfFile}
use Rattle.wgsl_format_files.specs.Inputs.{paths_of}
use Rattle.wgsl_format_files.specs.Runs.{State, Came, ComesOfAll}

-- what is written changes no other file
written_others : (mode : Mode) (old new : Files) (name text : List ℕ)
    → Written (store_mode_of mode) old new name text → ChangesOnly (name ∷ []) old new
written_others Write old new name text written =
    record { known = written.known; others = λ known other apart. written.others known other apart.0 }
written_others Check old new name text same = same_changes (name ∷ []) old new same
written_others Diff old new name text same = same_changes (name ∷ []) old new same

-- where files are not written, nothing changes
written_nothing : (mode : Mode) (old new : Files) (name text : List ℕ) → mode ≢ Write
    → Written (store_mode_of mode) old new name text → Same old new
written_nothing Write old new name text other written = absurd (other refl)
written_nothing Check old new name text other same = same
written_nothing Diff old new name text other same = same

-- what comes of the first file, and then of the others
then_others : (name : List ℕ) (names : List (List ℕ)) (a b c : Files) → ChangesOnly (name ∷ []) a b
    → ChangesOnly names b c → ChangesOnly (name ∷ names) a c
then_others name names a b c one rest = record {
  known = rest.known ∙ one.known;
  others = λ known other apart. rest.others (one.known ∙ known) other apart.1 ∙ one.others known other (apart.0, tt);
}

-- no file changes where nothing happens
same_self : (files : Files) → Same files files
same_self files = record { known = refl; each = λ _ _. refl }

module _ (becomes : List ℕ → List ℕ → Type 0) (refuses : List ℕ → Status → List ℕ → Type 0) (mode : Mode) where
  -- what comes of one file changes no other
  file_others : (old new : Files) (name : List ℕ) (came : Event)
      → ComesOfFile becomes refuses mode old new name came → ChangesOnly (name ∷ []) old new
  file_others old new name event.Unchanged kept = same_changes (name ∷ []) old new kept.same
  file_others old new name event.Formatted changes =
      written_others mode old new name changes.after changes.changed.written
  file_others old new name (event.Printed text) none = absurd none
  file_others old new name (event.WouldChange shown) changes =
      written_others mode old new name changes.after changes.changed.written
  file_others old new name (event.Refused refusal) refused = same_changes (name ∷ []) old new refused.1
  file_others old new name (event.Failed reason) failed = same_changes (name ∷ []) old new failed.1
  file_others old new name event.OutOfMemory same = same_changes (name ∷ []) old new same

  -- nor that file, where files are not written
  file_nothing : (old new : Files) (name : List ℕ) (came : Event) → mode ≢ Write
      → ComesOfFile becomes refuses mode old new name came → Same old new
  file_nothing old new name event.Unchanged other kept = kept.same
  file_nothing old new name event.Formatted other changes = absurd (other changes.told)
  file_nothing old new name (event.Printed text) other none = absurd none
  file_nothing old new name (event.WouldChange shown) other changes =
      written_nothing mode old new name changes.after other changes.changed.written
  file_nothing old new name (event.Refused refusal) other refused = refused.1
  file_nothing old new name (event.Failed reason) other failed = failed.1
  file_nothing old new name event.OutOfMemory other same = same

module _ (becomes : Files → Source → List ℕ → List ℕ → Type 0) (refuses : List ℕ → Status → List ℕ → Type 0)
    (mode : Mode) (stdin_name : List ℕ) where
  -- a run changes no file but those that it is given
  pub only_named : (inputs : List Source) (old new : State) (came : List Came)
      → ComesOfAll becomes refuses mode stdin_name old new inputs came
      → ChangesOnly (paths_of inputs) old.files new.files
  only_named [] old new came (none, same) = subst (λ (s : State). ChangesOnly [] old.files s.files)
      (sym same) (same_changes [] old.files old.files (same_self old.files))
  only_named (standard_input ∷ inputs) old new came (between, first, rest, are, one, others) =
      subst (λ files. ChangesOnly (paths_of inputs) files new.files) one.1 (only_named inputs between new rest others)
  only_named (path name ∷ inputs) old new came (between, first, rest, are, one, others) =
      then_others name (paths_of inputs) old.files between.files new.files
      (file_others (becomes old.files (path name)) refuses mode old.files between.files name first one.0)
      (only_named inputs between new rest others)

  -- and none where files are not written
  pub none_written : (inputs : List Source) (old new : State) (came : List Came) → mode ≢ Write
      → ComesOfAll becomes refuses mode stdin_name old new inputs came → Same old.files new.files
  none_written [] old new came other (none, same) = subst (λ (s : State). Same old.files s.files)
      (sym same) (same_self old.files)
  none_written (standard_input ∷ inputs) old new came other (between, first, rest, are, one, others) =
      subst (λ files. Same files new.files) one.1 (none_written inputs between new rest other others)
  none_written (path name ∷ inputs) old new came other (between, first, rest, are, one, others) =
      same_same old.files between.files new.files
      (file_nothing (becomes old.files (path name)) refuses mode old.files between.files name first other one.0)
      (none_written inputs between new rest other others)
