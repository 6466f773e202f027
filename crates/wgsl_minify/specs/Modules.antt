-- What a minified module is.
use Rattle.std.specs.Prelude.{◌≡◌, ℕ, List, ◌++◌}
use Rattle.wgsl_model.specs.Trees.Units.{TranslationUnit}
use Rattle.wgsl_model.specs.Program.{IsUnit}
use Rattle.wgsl_model_names.specs.Names.{unit_names, unit_referents}
use Rattle.wgsl_model_names.specs.Renamed.{renamed_unit}
use Rattle.wgsl_model_minify.specs.NewNames.{renaming_of}
use Rattle.wgsl_model_minify.specs.Renamed.{Which}
use Rattle.wgsl_model_minify.specs.Chosen.{AreNewNames}
use Rattle.wgsl_minify.specs.Hosts.{host_names}
use Rattle.wgsl_minify.specs.Prints.{IsShortPrint}

-- The source is a module. Names of it get the new names of a table, but those that a host program
-- uses and those to keep. Each use refers to what it referred to before. The text is the short
-- print of the module with these names.
pub record IsMinified (which : Which) (keep : List (List ℕ)) (source : List ℕ) (table : List (List ℕ × List ℕ))
    (text : List ℕ) : Type 0 where
  pub unit : TranslationUnit
  pub is_unit : IsUnit source unit
  pub new_names : AreNewNames which (host_names unit ++ keep) (unit_names unit) table
  pub same_referents : unit_referents (renamed_unit (renaming_of table) unit) ≡ unit_referents unit
  pub short : IsShortPrint (renamed_unit (renaming_of table) unit) text
