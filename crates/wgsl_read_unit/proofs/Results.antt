-- The parts of a function, where what it returns is split into attributes and type.
use Rattle.std.proofs.Common.{◌≡◌, List, refl}
use Rattle.std.specs.Prelude.{Option, Some, None}
use Rattle.grammar.specs.Tokens.{Token}
use Rattle.wgsl_model.specs.Trees.Expressions.{TypeExpression}
use Rattle.wgsl_model.specs.Trees.Attributes.{Attributes}
use Rattle.wgsl_model.specs.Trees.Statements.{CompoundStatement}
use Rattle.wgsl_model.specs.Trees.Units.{FormalParameter}
use Rattle.wgsl_model.specs.Grammar.TokenValues.{text_of}
use Rattle.wgsl_model.specs.Grammar.UnitParts.{function_parts}
use Rattle.wgsl_read_unit.specs.Results.{return_attributes, return_type}

pub function_parts_is : (name : Token) (parameters : List FormalParameter)
    (returned : Option (Attributes × TypeExpression)) (block : CompoundStatement)
    → function_parts name parameters returned block
    ≡ record {
      ident = text_of name;
      parameters = parameters;
      return_attributes = return_attributes returned;
      return_type = return_type returned;
      body = block;
    }
function_parts_is name parameters None block = refl
function_parts_is name parameters (Some r) block = refl
