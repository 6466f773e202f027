-- A module with new names is printed as a module, and each use refers to what it referred to before.
use Rattle.std.proofs.Common.{ℕ, List, ◌++◌}
use Rattle.wgsl_model.specs.Trees.Units.{TranslationUnit}
use Rattle.wgsl_model.specs.Printed.Units.{print_unit}
use Rattle.wgsl_model.specs.Program.{IsUnit, ReadsBack}
use Rattle.wgsl_model_names.specs.Names.{unit_names}
use Rattle.wgsl_model_names.specs.Renamed.{renamed_unit}
use Rattle.wgsl_model_minify.specs.NewNames.{renaming_of}
use Rattle.wgsl_model_minify.specs.Renamed.{Which}
use Rattle.wgsl_model_minify.specs.Chosen.{AreNewNames}
use Rattle.wgsl_theory_names.proofs.Kept.{unit_keeps}
use Rattle.wgsl_theory_names.proofs.Unknown.{unknown_fixed}
use Rattle.wgsl_theory_names.proofs.Lexed.Modules.{renamed_reads_back}
use Rattle.wgsl_minify.specs.Hosts.{host_names}
use Rattle.wgsl_minify.specs.Prints.{IsShortPrint}
use Rattle.wgsl_minify.specs.Modules.{IsMinified}

pub reads_back : (source : List ℕ) (u : TranslationUnit) (which : Which) (keep : List (List ℕ))
    (table : List (List ℕ × List ℕ)) → IsUnit source u → AreNewNames which keep (unit_names u) table
    → ReadsBack (print_unit (renamed_unit (renaming_of table) u)) (renamed_unit (renaming_of table) u)
reads_back source u which keep table h are =
    renamed_reads_back source u h (renaming_of table) are.fixes_underscore are.gives_identifiers

pub minified : (source : List ℕ) (u : TranslationUnit) (which : Which) (keep : List (List ℕ))
    (table : List (List ℕ × List ℕ)) (text : List ℕ) → IsUnit source u
    → AreNewNames which (host_names u ++ keep) (unit_names u) table
    → IsShortPrint (renamed_unit (renaming_of table) u) text → IsMinified which keep source table text
minified source u which keep table text h are short = record {
  unit = u;
  is_unit = h;
  new_names = are;
  same_referents = unit_keeps u (renaming_of table) (record {
    injective = are.injective;
    fixes_words = are.fixes_words;
    fixes_unknown = unknown_fixed (unit_names u) (renaming_of table) are.fixes_outside;
  }) are.fixes_outside;
  short = short;
}
