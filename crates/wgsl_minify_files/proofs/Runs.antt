-- What a run comes to.
use Rattle.std.proofs.Common.{◌≡◌, refl, sym, subst, ℕ, List, Option, None, Some, Result, option_map, string_bytes}
use Rattle.std.proofs.lemmas.Result.{IfErr-weaker, IfOk-weaker}
use Rattle.std.specs.Prelude.{IfErr, IfOk}
use Rattle.wgsl_files.specs.Files.{Files, Same, Replaced}
use Rattle.wgsl_program.specs.World.{World, world, Says}
use Rattle.wgsl_tree_renamed.specs.NewNames.{pairs}
use Rattle.wgsl_minify.specs.declared.module.Minified.{Minified}
use Rattle.wgsl_minify_files.specs.Failures.{message_of, code_of_failure, IsRefusal, Refuses}
use Rattle.wgsl_minify_files.specs.Options.{Options, Target, to_stream, to_file}
use Rattle.wgsl_minify_files.specs.Runs.{Delivers, Delivers.both, Delivers.without_text, IsMinifiedText, IsPrepared, IsRun, IsRun.stopped, IsSource, IsUnwritten, map_file, name_of, Saves, Stops, Stops.refused, Writes, Writes.failed, Writes.saved, Writes.shown}
use Rattle.wgsl_minify_files.specs.View.{target_view}
use Rattle.wgsl_minify_files.specs.declared.failure.Failure.{Failure}
use Rattle.wgsl_minify_files.specs.declared.failure.Failure.TheVariants.{OutOfMemory}
use Rattle.wgsl_minify_files.specs.declared.options.Target as declared

-- nothing has changed
pub same_files : (files : Files) → Same files files
same_files files = record { known = refl; each = λ _ _. refl }

module _ (options : Options) (files : Files) (left rest : Option (List ℕ)) (source shown : List ℕ)
    (read : IsSource options.input files left rest source) (is : shown ≡ source) where
  -- what is minified of a source that was read
  pub prepared_from : (r : Result Minified Failure)
      → IfOk r (λ it. IsMinifiedText options shown (pairs it.names) (string_bytes it.text))
      → IfOk r (λ it. IsPrepared options files left rest (pairs it.names) (string_bytes it.text))
  prepared_from r = IfOk-weaker r _ _ (λ (it : Minified) h. record {
    source = source;
    read = read;
    minified = subst (λ (s : List ℕ). IsMinifiedText options s (pairs it.names) (string_bytes it.text)) is h;
  })

  -- or it is refused
  pub stops_from : (r : Result Minified Failure) → IfErr r (IsRefusal (Refuses (name_of options.input) options.keep shown))
      → IfErr r (Stops options files left rest)
  stops_from r = IfErr-weaker r _ _ (λ (failure : Failure) h.
      refused source read (subst (λ (s : List ℕ). IsRefusal (Refuses (name_of options.input) options.keep s) failure) is h))

-- an allocation may fail wherever a text is written
pub memory_unwritten : (target : Target) (files : Files) → IsUnwritten target files OutOfMemory
memory_unwritten to_stream files = refl
memory_unwritten (to_file path) files = tt

module _ (files files_next : Files) (left left_next output errors errors_next : Option (List ℕ)) (status : ℕ) where
  -- a failure where nothing was written
  pub run_stops : (options : Options) (failure : Failure) → Stops options files left left_next failure
      → Says (message_of failure) (code_of_failure failure) errors errors_next status
      → IsRun options (world files left output errors) (world files left_next output errors_next) status
  run_stops options failure stops says =
      stopped failure stops (record { says = says; output = refl; files = same_files files })

  -- a text that is not written
  pub write_fails : (target : Target) (text : List ℕ) (failure : Failure) → IsUnwritten target files failure
      → Says (message_of failure) (code_of_failure failure) errors errors_next status → Same files files_next
      → Writes target text (world files left output errors) (world files_next left_next output errors_next) status
  write_fails target text failure unwritten says same =
      failed failure unwritten (record { says = says; output = refl; files = same })

  -- a text that is put into a file
  pub write_saves : (text path written : List ℕ) → written ≡ text → Replaced files files_next path written
      → status ≡ 0
      → Writes (to_file path) text (world files left output errors) (world files_next left_next output errors) status
  write_saves text path written is replaced zero =
      saved path refl (subst (Replaced files files_next path) is replaced) refl refl zero

-- a text that is written to the output
pub write_shows : (target : Target) (text : List ℕ) (files : Files)
    (left left_next output output_next errors : Option (List ℕ)) (status : ℕ) → target ≡ to_stream
    → Says text 0 output output_next status
    → Writes target text (world files left output errors) (world files left_next output_next errors) status
write_shows target text files left left_next output output_next errors status is says = shown is says refl refl

-- a text that is written to a place
pub writes_at : (target place : Target) (text : List ℕ) (old new : World) (status : ℕ) → target ≡ place
    → Writes place text old new status → Writes target text old new status
writes_at target place text old new status is = subst (λ (t : Target). Writes t text old new status) (sym is)

module _ (target : Option declared.Target) (text : List ℕ) where
  -- no new names are asked for
  pub none_saved : (files : Files) (left left_next output errors : Option (List ℕ)) (status : ℕ)
      → target ≡ None → status ≡ 0 → Saves (option_map target_view target) text
      (world files left output errors) (world files left_next output errors) status
  none_saved files left left_next output errors status none zero =
      subst (λ (t : Option declared.Target). Saves (option_map target_view t) text (world files left output errors)
      (world files left_next output errors) status) (sym none) (refl, refl, refl, zero)

  -- they are written
  pub some_saved : (to : declared.Target) (written : List ℕ) (old new : World) (status : ℕ) → target ≡ Some to
      → written ≡ text → Writes (target_view to) written old new status
      → Saves (option_map target_view target) text old new status
  some_saved to written old new status some is writes =
      subst (λ (t : Option declared.Target). Saves (option_map target_view t) text old new status) (sym some)
      (subst (λ (s : List ℕ). Writes (target_view to) s old new status) is writes)

module _ (options : Options) (table : List (List ℕ × List ℕ)) (text : List ℕ) where
  -- the new names are not written, so the text is not
  pub kept_back : (old new : World) (status : ℕ) → Saves options.map (map_file table) old new status
      → ¬ (status ≡ 0) → Delivers options table text old new status
  kept_back old new status saves other = without_text saves other

  -- both are
  pub delivered : (written : List ℕ) → written ≡ text → (old between new : World) (first status : ℕ)
      → Saves options.map (map_file table) old between first → first ≡ 0
      → Writes options.output written between new status → Delivers options table text old new status
  delivered written is old between new first status saves zero writes =
      both between (subst (λ (s : ℕ). Saves options.map (map_file table) old between s) zero saves)
      (subst (λ (s : List ℕ). Writes options.output s between new status) is writes)
