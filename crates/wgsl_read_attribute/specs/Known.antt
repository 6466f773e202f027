-- What a name makes of its arguments.
use Rattle.std.specs.Prelude.{ℕ, List}
use Rattle.wgsl_model.specs.Trees.Attributes.{Attribute}
use Rattle.wgsl_model.specs.Grammar.Checks.{Checked, Arguments, attribute_of}

-- what a name makes of its arguments
unfoldable pub checked_attribute : List ℕ → Arguments → Checked Attribute
checked_attribute name arguments = attribute_of (record { name = name; arguments = arguments })
