-- What tokens say of names, by their classes.
use Rattle.std.specs.Prelude.{ℕ, Bool, false, ◌==◌, if◌then◌else◌, List, [], ◌∷◌, ◌++◌, Option, None, Some, codes}
use Rattle.grammar.specs.Tokens.{Token}
use Rattle.grammar.specs.Grammar.{is_among}
use Rattle.wgsl_model.specs.Tokens.ClassTable.{SymArrow, SymAttr, SymBraceLeft, SymBraceRight, SymComma, SymParenLeft, SymParenRight, SymPeriod, SymSemicolon, SymUnderscore, KwAlias, KwBreak, KwCase, KwConst, KwContinuing, KwDefault, KwDiagnostic, KwEnable, KwFn, KwFor, KwLet, KwOverride, KwRequires, KwStruct, KwSwitch, KwVar, Ident, ReservedWord, TemplateArgsStart, TemplateArgsEnd, symbols, keywords}
use Rattle.wgsl_model.specs.Tokens.Texts.{word_in, special_texts}
use Rattle.wgsl_model.specs.Tokens.Words.{look_up}
use Rattle.wgsl_model.specs.Grammar.TokenValues.{text_of}
use Rattle.wgsl_model_names.specs.Scopes.{Branch, under_if, under_elif, under_else}
use Rattle.wgsl_model_places.specs.Roles.{Declared, function, structure, alias, constant, override, variable, let_value, Role, uses, unknown, word, Name}
use Rattle.wgsl_model_places.specs.Items.{Bracket, parameters, header, members, clauses, block, result}

pub data Sign : Type 0 where
  -- `@` `.` `;` `,`
  at_sign period_sign semicolon comma : Sign
  -- `(`; the start of a template list; the end of either
  opening list_opening closing : Sign
  -- `{` and `}`
  block_start block_end : Sign
  -- the next name is what this declares, and this is in the next bracket
  heads : Option Declared → Bracket → Sign
  -- names are words up to the end of the directive
  directive : Sign
  -- what begins so is no statement: `case`, `default`, `continuing`; nor `break` before `if`
  no_statement break_sign : Sign
  -- it says nothing
  none : Sign

-- the signs of some classes
abbrev pub signs : List (ℕ × Sign)
signs = (SymAttr, at_sign) ∷ (SymPeriod, period_sign) ∷ (SymSemicolon, semicolon) ∷ (SymComma, comma)
    ∷ (SymParenLeft, opening) ∷ (TemplateArgsStart, list_opening)
    ∷ (SymParenRight, closing) ∷ (TemplateArgsEnd, closing)
    ∷ (SymBraceLeft, block_start) ∷ (SymBraceRight, block_end)
    ∷ (KwFn, heads (Some function) parameters) ∷ (KwStruct, heads (Some structure) members)
    ∷ (KwAlias, heads (Some alias) block) ∷ (KwConst, heads (Some constant) block)
    ∷ (KwOverride, heads (Some override) block) ∷ (KwVar, heads (Some variable) block)
    ∷ (KwLet, heads (Some let_value) block) ∷ (SymArrow, heads None result)
    ∷ (KwSwitch, heads None clauses) ∷ (KwFor, heads None header)
    ∷ (KwEnable, directive) ∷ (KwRequires, directive) ∷ (KwDiagnostic, directive)
    ∷ (KwCase, no_statement) ∷ (KwDefault, no_statement) ∷ (KwContinuing, no_statement)
    ∷ (KwBreak, break_sign) ∷ []

-- the sign of a class in a table
abbrev pub sign_in : List (ℕ × Sign) → ℕ → Sign
sign_in [] class = none
sign_in (entry ∷ entries) class = if class == entry.0 then entry.1 else sign_in entries class

abbrev pub sign_of : ℕ → Sign
sign_of = sign_in signs

-- ---- names
-- the text of a token is its own
abbrev pub has_text : ℕ → Bool
has_text class = is_among class (Ident ∷ ReservedWord ∷ [])

-- a reserved word counts as a name, and `_` too, on a left side
abbrev pub is_name : ℕ → Bool
is_name class = is_among class (Ident ∷ ReservedWord ∷ SymUnderscore ∷ [])

-- the name that a token is, or its word
abbrev pub name_at : Token → Name
name_at t = record {
  text = if has_text t.class then text_of t else word_in (symbols ++ (keywords ++ special_texts)) t.class;
  start = t.start;
  end = t.end;
}

-- the class of the first of some tokens
abbrev pub first_class : List Token → Option ℕ
first_class [] = None
first_class (t ∷ ts) = Some t.class

-- the class is this one
abbrev pub is_class : ℕ → Option ℕ → Bool
is_class class None = false
is_class class (Some other) = other == class

-- ---- attributes (WGSL, "Attributes")
-- what the names in the arguments of an attribute are, by its name
abbrev pub argument_roles : List (List ℕ × Role)
argument_roles = (codes "align", uses) ∷ (codes "binding", uses) ∷ (codes "blend_src", uses)
    ∷ (codes "group", uses) ∷ (codes "id", uses) ∷ (codes "location", uses) ∷ (codes "size", uses)
    ∷ (codes "workgroup_size", uses) ∷ (codes "type", uses)
    ∷ (codes "builtin", word) ∷ (codes "diagnostic", word) ∷ (codes "interpolate", word) ∷ []

-- the conditions that attributes state
abbrev pub branches : List (List ℕ × Branch)
branches = (codes "if", under_if) ∷ (codes "elif", under_elif) ∷ (codes "else", under_else) ∷ []

-- what was found, or else this
abbrev pub found_or : {A : Type 0} → A → Option A → A
found_or a None = a
found_or a (Some b) = b

-- of any other attribute they are not known
abbrev pub argument_role : List ℕ → Role
argument_role attribute = found_or unknown (look_up argument_roles attribute)

abbrev pub branch_named : List ℕ → Option Branch
branch_named attribute = look_up branches attribute
