use Rattle.std.proofs.Common.{◌≡◌, ◌∙◌, ap, refl, ℕ, false, List, [], ◌∷◌, ◌++◌}
use Rattle.std.specs.Prelude.{Result, Ok, Err, OnOk}
use Rattle.wgsl_format_options.specs.Options as plain
use Rattle.wgsl_files.specs.Files.{Files}
use Rattle.wgsl_files.proofs.Listings.{unknown_file}
use Rattle.wgsl_format_files.specs.Inputs.{AreFilesOf}
use Rattle.wgsl_format_files.proofs.inputs.push_files.Goals as goal

-- the named path alone, of files of which nothing is known
alone : {E : Type 0} (files : Files) (named text : List ℕ) (old new : List plain.Source)
    (result : Result (Unit {0}) E) → files.known ≡ false → text ≡ named
    → OnOk result (new ≡ old ++ plain.path text ∷ []) → OnOk result (AreFilesOf files named old new)
alone files named text old new (Ok done) none is pushed =
    (named ∷ [], unknown_file files named _ none refl, pushed ∙ ap (λ t. old ++ plain.path t ∷ []) is)
alone files named text old new (Err e) none is pushed = pushed

pub returns-in_ok-from_str-in-Err-Failed : goal.returns-in_ok-from_str-in-Err-Failed
returns-in_ok-from_str-in-Err-Failed g c =
    alone _ _ _ _ _ c.push_path.result (rw c.in-Err-Failed.field-0-is at c.in-Err-Failed.ensures.failed)
    c.in_ok-from_str-in-Err-Failed.ensures.ok c.push_path.ensures
