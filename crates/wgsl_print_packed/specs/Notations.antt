-- The notation that a value of the library is.
use Rattle.wgsl_model_packed.specs.Printing.{wgsl, json}
use Rattle.wgsl_model_packed.specs.Printing as packed
use Rattle.wgsl_print_packed.specs.declared.notation.Notation.{Notation}
use Rattle.wgsl_print_packed.specs.declared.notation.Notation.TheVariants.{Wgsl, Json}

abbrev pub notation_of : Notation → packed.Notation
notation_of Wgsl = wgsl
notation_of Json = json
