-- What parts of modules, and rules that RuleTerms leaves out, derive of renamed tokens.
use Rattle.std.proofs.Common.{◌≡◌, map, Some, None, refl, ap, ◌∙◌}
use Rattle.std.specs.Option.{option_map}
use Rattle.grammar.specs.Grammar.{Grammar.symbol}
use Rattle.wgsl_model.specs.Tokens.ClassTable.{SymArrow, SymColon, SymComma, SymParenLeft, SymParenRight, KwFn}
use Rattle.wgsl_model.specs.Trees.Expressions.{TypeExpression}
use Rattle.wgsl_model.specs.Trees.Attributes.{Attributes}
use Rattle.wgsl_model.specs.Trees.Units as tree
use Rattle.wgsl_model.specs.Trees.Units.{FormalParameter, Function, UnattributedDirective, UnattributedDeclaration}
use Rattle.wgsl_model.specs.Trees.Attributed.{with_attributes}
use Rattle.wgsl_model.specs.Grammar.TokenValues.{text_of}
use Rattle.wgsl_model.specs.Grammar.StatementParts.{attributed}
use Rattle.wgsl_model.specs.Grammar.UnitParts.{return_part}
use Rattle.wgsl_model.specs.Grammar.Symbols.{ident, type_specifier, compound_statement, struct_member, formal_parameter, function_declaration, enable_directive, requires_directive, diagnostic_directive, Rule}
use Rattle.wgsl_model.specs.Grammar.Written.{written}
use Rattle.wgsl_theory_reread.proofs.EachRule.UnitParts.{FunctionParts, function_in}
use Rattle.wgsl_model_names.specs.Renamed.{Renaming, renamed_type, renamed_attributes, renamed_compound, renamed_parameter, renamed_function, renamed_unattributed, renamed_global, renamed_directive}
use Rattle.wgsl_model_names.specs.RenamedTokens.{renamed_token}
use Rattle.wgsl_theory_names.proofs.Derived.Renews.{Renamed}
use Rattle.wgsl_theory_names.proofs.Derived.Ways.{RenamesBy, symbol_renames, then_renames, gives_renames, makes_renames, alike_renames, before_renames, after_renames, optional_renames, list_or_none_renames, kept_by}
use Rattle.wgsl_theory_names.proofs.Derived.AttributeRules.{attributes_rename}
use Rattle.wgsl_theory_names.proofs.Derived.StatementRules.{with_attributes_renames}

-- what a function returns, renamed
abbrev pub renamed_returned : Renaming → Attributes × TypeExpression → Attributes × TypeExpression
renamed_returned f r = (renamed_attributes f r.0, renamed_type f r.1)

-- a function of renamed parts
abbrev renamed_function_parts : Renaming → FunctionParts → FunctionParts
renamed_function_parts f p = (
  renamed_token f p.0,
  (map (renamed_parameter f) p.1.0, (option_map (renamed_returned f) p.1.1.0, renamed_compound f p.1.1.1)),
)

parts_renamed : (f : Renaming) (p : FunctionParts)
    → function_in (renamed_function_parts f p) ≡ renamed_function f (function_in p)
parts_renamed f (name, (parameters, (None, block))) = refl
parts_renamed f (name, (parameters, (Some r, block))) = refl

module _ {f : Renaming} where
  -- ---- declarations
  pub declaration_renames : {g : Rule UnattributedDeclaration} → RenamesBy f g (λ w v. w ≡ renamed_unattributed f v)
      → RenamesBy f (attributed with_attributes g) (λ w v. w ≡ renamed_global f v)
  declaration_renames G = with_attributes_renames {change = renamed_unattributed f} G

  -- the name of a member stays
  pub struct_member_renames : RenamesBy f (written struct_member) (Renamed f struct_member)
  struct_member_renames = makes_renames (then_renames attributes_rename
      (then_renames (after_renames SymColon (kept_by (symbol ident))) (symbol_renames type_specifier)))
      (λ w v s h. λ i. record {
        node = record { attributes = h.0 i; ident = text_of (h.1.0 i); ty = h.1.1 i };
        span = s;
      })

  returned_renames : RenamesBy f return_part (λ w v. w ≡ renamed_returned f v)
  returned_renames =
      alike_renames (before_renames SymArrow (then_renames attributes_rename (symbol_renames type_specifier)))
      (λ w v h. λ i. (h.0 i, h.1 i))

  pub function_declaration_renames : RenamesBy f (written function_declaration) (Renamed f function_declaration)
  function_declaration_renames = declaration_renames
      (gives_renames (before_renames KwFn (then_renames (symbol_renames ident) (before_renames SymParenLeft
      (then_renames (after_renames SymParenRight
      (list_or_none_renames SymComma {change = renamed_parameter f} (symbol_renames formal_parameter)))
      (then_renames (optional_renames {change = renamed_returned f} returned_renames)
      (symbol_renames compound_statement))))))
      (λ w v h. (λ i. tree.function (function_in (h.0 i, (h.1.0 i, (h.1.1.0 i, h.1.1.1 i)))))
      ∙ ap tree.function (parts_renamed f v)))

  -- ---- directives, which have no names after their attributes
  pub directive_renames : {g : Rule UnattributedDirective} → RenamesBy f g (λ w v. w ≡ v)
      → RenamesBy f (attributed with_attributes g) (λ w v. w ≡ renamed_directive f v)
  directive_renames G = with_attributes_renames {change = λ d. d} G

  pub enable_directive_renames : RenamesBy f (written enable_directive) (Renamed f enable_directive)
  enable_directive_renames = directive_renames (kept_by _)

  pub requires_directive_renames : RenamesBy f (written requires_directive) (Renamed f requires_directive)
  requires_directive_renames = directive_renames (kept_by _)

  pub diagnostic_directive_renames : RenamesBy f (written diagnostic_directive) (Renamed f diagnostic_directive)
  diagnostic_directive_renames = directive_renames (kept_by _)
