-- What the rules of declarations, directives and modules derive fits.
use Rattle.std.proofs.Common.{◌≡◌, refl, false, List, Option, Some, None}
use Rattle.std.specs.Option.{IfSome}
use Rattle.wgsl_model.specs.Printed.Units.{is_void_declaration}
use Rattle.grammar.specs.Tokens.{Token}
use Rattle.wgsl_model.specs.Tokens.ClassTable.{SymArrow, SymBraceLeft, SymBraceRight, SymColon, SymComma, SymEqual, SymParenLeft, SymParenRight, SymSemicolon, KwAlias, KwConst, KwFn, KwOverride, KwStruct}
use Rattle.wgsl_model.specs.Trees.Spanned.{spanned}
use Rattle.wgsl_model.specs.Trees.Expressions.{TypeExpression}
use Rattle.wgsl_model.specs.Trees.Attributes.{Attributes}
use Rattle.wgsl_model.specs.Trees.Attributed.{with_attributes, without_attributes}
use Rattle.wgsl_model.specs.Trees.Statements.{CompoundStatement, DeclarationKind}
use Rattle.wgsl_model.specs.Trees.Units.{FormalParameter, UnattributedDeclaration, UnattributedDirective}
use Rattle.wgsl_model.specs.Grammar.StatementParts.{attributed}
use Rattle.wgsl_model.specs.Grammar.UnitParts.{member_of, parameter_of, value_of, assert_declaration, alias_of, struct_of, return_part, function_of}
use Rattle.wgsl_model.specs.Grammar.Symbols as symbols
use Rattle.wgsl_model.specs.Grammar.Symbols.{Rule}
use Rattle.wgsl_model.specs.Grammar.Written.{written}
use Rattle.wgsl_theory_reread.proofs.Gives.{anything, symbol_sound, then_sound, or_sound, gives_sound, means_sound, sign_before, sign_after}
use Rattle.wgsl_theory_packed.specs.Fits.{Every, TypeFits, AttributesFit, CompoundFits, DirectiveFits, ParameterFits, UnattributedDeclarationFits}
use Rattle.wgsl_theory_packed.proofs.Derived.Ways.{makes_fits, optional_fits, many_fit, list_fits, list_or_none_fits}
use Rattle.wgsl_theory_packed.proofs.Derived.Values.{AsGlobalItem, FitsAs, Gives}
use Rattle.wgsl_theory_packed.proofs.Derived.StatementRules.{not_empty, attributes_give, initializer_gives, var_kind_gives}

-- ---- members and parameters
pub struct_member_gives : Gives (written symbols.struct_member) (FitsAs symbols.struct_member)
struct_member_gives = makes_fits (then_sound attributes_give
    (then_sound (sign_after SymColon (symbol_sound symbols.ident)) (symbol_sound symbols.type_specifier)))
    member_of (FitsAs symbols.struct_member) (λ p s f h. (f, (h.0, h.1.1)))

pub formal_parameter_gives : Gives (written symbols.formal_parameter) (FitsAs symbols.formal_parameter)
formal_parameter_gives = gives_sound (then_sound attributes_give
    (then_sound (sign_after SymColon (symbol_sound symbols.ident)) (symbol_sound symbols.type_specifier)))
    parameter_of (FitsAs symbols.formal_parameter) (λ p h. (h.0, h.1.1))

-- ---- declarations
-- what is written with the attributes before it, and is not empty
abbrev Part : UnattributedDeclaration → Type 0
Part d = UnattributedDeclarationFits d × (is_void_declaration d ≡ false)

declaration_gives : {g : Rule UnattributedDeclaration} → Gives g Part
    → Gives (attributed with_attributes g) AsGlobalItem
declaration_gives G = gives_sound (then_sound attributes_give G)
    (λ p. with_attributes p.0 p.1) AsGlobalItem (λ p h. ((h.0, h.1.0), not_empty h.1.1))

pub global_declaration_gives : Gives (written symbols.global_declaration) (FitsAs symbols.global_declaration)
global_declaration_gives = makes_fits (or_sound (means_sound SymSemicolon (without_attributes
    UnattributedDeclaration.void) AsGlobalItem ((tt, tt), λ e. refl)) (or_sound (symbol_sound symbols.var_declaration)
    (or_sound (symbol_sound symbols.const_declaration) (or_sound (symbol_sound symbols.override_declaration)
    (or_sound (symbol_sound symbols.alias_declaration) (or_sound (symbol_sound symbols.struct_declaration)
    (or_sound (symbol_sound symbols.function_declaration) (gives_sound (sign_after SymSemicolon
    (symbol_sound symbols.const_assert)) assert_declaration AsGlobalItem (λ c h. (h, not_empty refl)))))))))) spanned
    (FitsAs symbols.global_declaration) (λ d s f h. (f, h.0, h.1))

pub var_declaration_gives : Gives (written symbols.var_declaration) AsGlobalItem
var_declaration_gives = declaration_gives (gives_sound (then_sound var_kind_gives (then_sound
    (symbol_sound symbols.typed_ident) (sign_after SymSemicolon (optional_fits initializer_gives))))
    (λ (kind, (typed, value)). value_of kind typed value) Part (λ p h. (h.1, refl)))

pub const_declaration_gives : Gives (written symbols.const_declaration) AsGlobalItem
const_declaration_gives = declaration_gives (gives_sound (sign_before KwConst
    (then_sound (symbol_sound symbols.typed_ident) (sign_after SymSemicolon initializer_gives)))
    (λ (typed, value). value_of DeclarationKind.const_kind typed (Some value)) Part (λ p h. (h, refl)))

pub override_declaration_gives : Gives (written symbols.override_declaration) AsGlobalItem
override_declaration_gives = declaration_gives (gives_sound (sign_before KwOverride (then_sound
    (symbol_sound symbols.typed_ident) (sign_after SymSemicolon (optional_fits initializer_gives))))
    (λ (typed, value). value_of DeclarationKind.override_kind typed value) Part (λ p h. (h, refl)))

pub alias_declaration_gives : Gives (written symbols.alias_declaration) AsGlobalItem
alias_declaration_gives =
    declaration_gives (gives_sound (sign_before KwAlias (then_sound (symbol_sound symbols.ident)
    (sign_before SymEqual (sign_after SymSemicolon (symbol_sound symbols.type_specifier)))))
    alias_of Part (λ p h. (h.1, refl)))

pub struct_declaration_gives : Gives (written symbols.struct_declaration) AsGlobalItem
struct_declaration_gives = declaration_gives
    (gives_sound (sign_before KwStruct (then_sound (symbol_sound symbols.ident) (sign_before SymBraceLeft
    (sign_after SymBraceRight (list_fits SymComma (symbol_sound symbols.struct_member)))))) struct_of
    Part (λ p h. (h.1, refl)))

return_part_gives : Gives return_part (λ p. AttributesFit p.0 × TypeFits p.1)
return_part_gives = sign_before SymArrow (then_sound attributes_give (symbol_sound symbols.type_specifier))

function_fits : (t : Token) (ps : List FormalParameter) (o : Option (Attributes × TypeExpression))
    (b : CompoundStatement) → Every ParameterFits ps → IfSome o (λ p. AttributesFit p.0 × TypeFits p.1)
    → CompoundFits b → Part (function_of t ps o b)
function_fits t ps None b h k m = ((h, refl, m), refl)
function_fits t ps (Some p) b h k m = ((h, k, m), refl)

pub function_declaration_gives : Gives (written symbols.function_declaration) AsGlobalItem
function_declaration_gives = declaration_gives (gives_sound (sign_before KwFn (then_sound (symbol_sound symbols.ident)
    (sign_before SymParenLeft (then_sound
    (sign_after SymParenRight (list_or_none_fits SymComma (symbol_sound symbols.formal_parameter)))
    (then_sound (optional_fits return_part_gives) (symbol_sound symbols.compound_statement))))))
    (λ (name, (parameters, (returned, block))). function_of name parameters returned block) Part
    (λ p h. function_fits p.0 p.1.0 p.1.1.0 p.1.1.1 h.1.0 h.1.1.0 h.1.1.1))

-- ---- directives
directive_gives : {g : Rule UnattributedDirective} → Gives g (λ d. Unit {0})
    → Gives (attributed with_attributes g) DirectiveFits
directive_gives G = gives_sound (then_sound attributes_give G) (λ p. with_attributes p.0 p.1) DirectiveFits
    (λ p h. h.0)

pub global_directive_gives : Gives (written symbols.global_directive) (FitsAs symbols.global_directive)
global_directive_gives = or_sound (symbol_sound symbols.enable_directive)
    (or_sound (symbol_sound symbols.requires_directive) (symbol_sound symbols.diagnostic_directive))

pub enable_directive_gives : Gives (written symbols.enable_directive) DirectiveFits
enable_directive_gives = directive_gives (anything _)

pub requires_directive_gives : Gives (written symbols.requires_directive) DirectiveFits
requires_directive_gives = directive_gives (anything _)

pub diagnostic_severity_gives : Gives (written symbols.diagnostic_severity) (FitsAs symbols.diagnostic_severity)
diagnostic_severity_gives = anything (written symbols.diagnostic_severity)

pub diagnostic_directive_gives : Gives (written symbols.diagnostic_directive) DirectiveFits
diagnostic_directive_gives = directive_gives (anything _)

-- ---- modules
pub unit_gives : Gives (written symbols.unit) (FitsAs symbols.unit)
unit_gives = gives_sound (then_sound (many_fit (symbol_sound symbols.global_directive))
    (many_fit (symbol_sound symbols.global_declaration))) (λ (directives, declarations).
    record { global_directives = directives; global_declarations = declarations }) (FitsAs symbols.unit)
    (λ p h. h)
