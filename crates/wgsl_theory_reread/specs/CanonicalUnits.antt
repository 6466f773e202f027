-- The tokens that a printed module has, written from its tree: no empty declaration, no comma
-- after the last item of a list, and no places.
use Rattle.std.specs.Prelude.{◌≡◌, ℕ, List, [], ◌∷◌, Option, Some, None, if◌then◌else◌, map, chars}
use Rattle.grammar.specs.Tokens.{Token}
use Rattle.grammar.specs.Endings.{Ending.finished}
use Rattle.wgsl_model.specs.Tokens.ClassTable.{SymArrow, SymBraceLeft, SymBraceRight, SymColon, SymComma, SymEqual, SymParenLeft, SymParenRight, SymSemicolon, KwAlias, KwDiagnostic, KwEnable, KwFn, KwRequires, KwStruct}
use Rattle.wgsl_model.specs.Tokens.Kind.{Kind, plain}
use Rattle.wgsl_model.specs.Tokens.Raw.{kind_of_word}
use Rattle.wgsl_model.specs.Trees.NamedValues.{severity_text}
use Rattle.wgsl_model.specs.Trees.Spanned.{Spanned}
use Rattle.wgsl_model.specs.Trees.Expressions.{TypeExpression}
use Rattle.wgsl_model.specs.Trees.Attributes.{Attributes}
use Rattle.wgsl_model.specs.Trees.Units.{GlobalDirective, UnattributedDirective, diagnostic, enable, requires, StructMember, FormalParameter, Function, GlobalDeclaration, UnattributedDeclaration, void, declaration, type_alias, structure, function, const_assert, TranslationUnit}
use Rattle.wgsl_model.specs.Printed.Units.{is_void}
use Rattle.wgsl_model.specs.Tokens.TokenList.{IsTokenList}
use Rattle.wgsl_theory_reread.specs.CanonicalExpressions.{Writer, all_tokens, list_tokens, word_token, type_tokens}
use Rattle.wgsl_theory_reread.specs.CanonicalAttributes.{rule_tokens, attributes_tokens}
use Rattle.wgsl_theory_reread.specs.CanonicalStatements.{declaration_tokens, assert_tokens, compound_tokens}

-- what is after the attributes of a directive
abbrev pub unattributed_directive_tokens : Writer UnattributedDirective
unattributed_directive_tokens (diagnostic d) rest = plain KwDiagnostic
    ∷ (plain SymParenLeft ∷ (kind_of_word (severity_text d.severity)
    ∷ (plain SymComma ∷ rule_tokens d.rule_name (plain SymParenRight ∷ (plain SymSemicolon ∷ rest)))))
unattributed_directive_tokens (enable d) rest = plain KwEnable
    ∷ list_tokens word_token d.extensions (plain SymSemicolon ∷ rest)
unattributed_directive_tokens (requires d) rest = plain KwRequires
    ∷ list_tokens word_token d.extensions (plain SymSemicolon ∷ rest)

-- a directive
abbrev pub directive_tokens : Writer GlobalDirective
directive_tokens d rest = attributes_tokens d.attributes (unattributed_directive_tokens d.node rest)

-- attributes, a name and its type
abbrev pub attributed_tokens : Attributes → List ℕ → TypeExpression → List Kind → List Kind
attributed_tokens attributes ident ty rest = attributes_tokens attributes
    (kind_of_word ident ∷ (plain SymColon ∷ type_tokens ty rest))

-- a member of a structure
abbrev pub member_tokens : Writer (Spanned StructMember)
member_tokens m rest = attributed_tokens m.node.attributes m.node.ident m.node.ty rest

-- a parameter of a function
abbrev pub parameter_tokens : Writer FormalParameter
parameter_tokens p rest = attributed_tokens p.attributes p.ident p.ty rest

-- what a function returns, after its arrow, if it is there
abbrev pub result_tokens : Attributes → Option TypeExpression → List Kind → List Kind
result_tokens attributes None rest = rest
result_tokens attributes (Some t) rest = plain SymArrow ∷ attributes_tokens attributes (type_tokens t rest)

-- a function
abbrev pub function_tokens : Writer Function
function_tokens f rest =
    plain KwFn ∷ (kind_of_word f.ident ∷ (plain SymParenLeft ∷ list_tokens parameter_tokens f.parameters
    (plain SymParenRight ∷ result_tokens f.return_attributes f.return_type (compound_tokens f.body rest))))

-- what is after the attributes of a declaration; an empty one is its `;`
abbrev pub unattributed_declaration_tokens : Writer UnattributedDeclaration
unattributed_declaration_tokens void rest = plain SymSemicolon ∷ rest
unattributed_declaration_tokens (declaration d) rest = declaration_tokens d (plain SymSemicolon ∷ rest)
unattributed_declaration_tokens (type_alias a) rest = plain KwAlias
    ∷ (kind_of_word a.ident ∷ (plain SymEqual ∷ type_tokens a.ty (plain SymSemicolon ∷ rest)))
unattributed_declaration_tokens (structure s) rest = plain KwStruct ∷ (kind_of_word s.ident
    ∷ (plain SymBraceLeft ∷ list_tokens member_tokens s.members (plain SymBraceRight ∷ rest)))
unattributed_declaration_tokens (function f) rest = function_tokens f rest
unattributed_declaration_tokens (const_assert c) rest = assert_tokens c (plain SymSemicolon ∷ rest)

-- a declaration
abbrev pub global_declaration_tokens : Writer GlobalDeclaration
global_declaration_tokens d rest = attributes_tokens d.attributes (unattributed_declaration_tokens d.node rest)

-- a declaration in a module, where an empty one has no tokens
abbrev pub kept_declaration_tokens : Writer (Spanned GlobalDeclaration)
kept_declaration_tokens d rest = if is_void d.node then rest else global_declaration_tokens d.node rest

-- a module: its directives, then its declarations
abbrev pub unit_tokens : Writer TranslationUnit
unit_tokens u rest = all_tokens directive_tokens u.global_directives
    (all_tokens kept_declaration_tokens u.global_declarations rest)

-- the tokens that the printed module has
abbrev pub canonical : TranslationUnit → List Kind
canonical u = unit_tokens u []

-- a token without its place
abbrev pub without_place : Token → Kind
without_place t = record { class = t.class; payload = t.payload }

-- the tokens of a text, places aside, are these, and end with the text
abbrev pub HasTokens : List ℕ → List Kind → Type 0
HasTokens text kinds = (ts : List Token) × IsTokenList (chars text) ts finished × (map without_place ts ≡ kinds)
