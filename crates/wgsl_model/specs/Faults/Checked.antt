-- The faults that the checks find in a list of tokens, each as a slice of it: four kinds.
use Rattle.std.specs.Prelude.{◌≡◌, Bool, false, ◌==◌, List, [], ◌∷◌, ◌++◌, Some, None}
use Rattle.grammar.specs.Tokens.{Token, Fault, span_of}
use Rattle.grammar.specs.Grammar.{Mode.unchecked, is_among, Derives}
use Rattle.grammar.specs.Endings.{last_class, Ending, Ending.finished, Ending.carried}
use Rattle.wgsl_model.specs.Tokens.ClassTable.{SymAttr, SymParenLeft, KwDiagnostic, Ident, ReservedWord}
use Rattle.wgsl_model.specs.Tokens.Words.{look_up}
use Rattle.wgsl_model.specs.Faults.Kinds.{span_of_token, reserved_word, out_of_memory_kind, diagnostic_severity}
use Rattle.wgsl_model.specs.Trees.NamedValues.{severities}
use Rattle.wgsl_model.specs.Trees.Spanned.{Spanned}
use Rattle.wgsl_model.specs.Trees.Expressions.{ExpressionNode}
use Rattle.wgsl_model.specs.Grammar.TokenValues.{text_of}
use Rattle.wgsl_model.specs.Grammar.Checks.{var_fault, Arguments, AttributeParts, attribute_fault}
use Rattle.wgsl_model.specs.Grammar.Symbols.{Symbol.attribute, Symbol.var_template}
use Rattle.wgsl_model.specs.Grammar.Written.{written}

-- the last of these tokens is not `@`
abbrev pub IsApart : List Token → Type 0
IsApart before = is_among (last_class 0 before) (SymAttr ∷ []) ≡ false

-- a list of tokens ended because an allocation failed
abbrev pub wants_memory : Ending → Bool
wants_memory finished = false
wants_memory (carried x) = x.kind == out_of_memory_kind

-- no `(` follows: a token of another class comes next, or the tokens end, and not because memory
-- was refused
abbrev pub IsUnopened : List Token → Ending → Type 0
IsUnopened [] ending = wants_memory ending ≡ false
IsUnopened (t ∷ ts) ending = (t.class == SymParenLeft) ≡ false

-- a reserved word that is not directly after `@`
abbrev pub IsReservedFault : List Token → Fault → List Token → Type 0
IsReservedFault ts x ys = (before : List Token) × (t : Token) × (ts ≡ before ++ (t ∷ ys)) × IsApart before
    × (t.class ≡ ReservedWord) × (x ≡ reserved_word (text_of t) (span_of_token t))

-- `diagnostic`, not directly after `@`, then `(` and an identifier that names no severity, which is
-- the fault
abbrev pub IsSeverityFault : List Token → Fault → List Token → Type 0
IsSeverityFault ts x ys = (before : List Token) × (d p t : Token)
    × (ts ≡ before ++ (d ∷ (p ∷ (t ∷ ys)))) × IsApart before
    × (d.class ≡ KwDiagnostic) × (p.class ≡ SymParenLeft) × (t.class ≡ Ident)
    × (look_up severities (text_of t) ≡ None) × (x ≡ diagnostic_severity (span_of_token t))

-- the attribute has arguments, or none that could follow
abbrev pub IsWhole : Arguments → List Token → Ending → Type 0
IsWhole None ys ending = IsUnopened ys ending
IsWhole (Some es) ys ending = Unit {0}

-- a slice that derives an attribute with arguments, or one without where no `(` follows, of which
-- the check says x
abbrev pub IsAttributeFault : List Token → Ending → Fault → List Token → Type 0
IsAttributeFault ts ending x ys = (before slice : List Token) × (a : Spanned AttributeParts)
    × (ts ≡ before ++ (slice ++ ys))
    × Derives unchecked written attribute a slice × IsWhole a.node.arguments ys ending
    × (attribute_fault a (span_of slice) ≡ Some x)

-- a slice, not directly after `@`, that derives `var` with a template, of which the check says x
abbrev pub IsVarTemplateFault : List Token → Fault → List Token → Type 0
IsVarTemplateFault ts x ys = (before slice : List Token) × (es : List ExpressionNode)
    × (ts ≡ before ++ (slice ++ ys)) × IsApart before
    × Derives unchecked written var_template (Some es) slice
    × (var_fault (Some es) (span_of slice) ≡ Some x)

-- a checked fault x of a list that ended so, with ys after its last token
pub data IsCheckedFault (ts : List Token) (ending : Ending) (x : Fault) (ys : List Token) : Type 0 where
  reserved_fault : IsReservedFault ts x ys → IsCheckedFault ts ending x ys
  severity_fault_at : IsSeverityFault ts x ys → IsCheckedFault ts ending x ys
  attribute_fault_at : IsAttributeFault ts ending x ys → IsCheckedFault ts ending x ys
  var_template_fault : IsVarTemplateFault ts x ys → IsCheckedFault ts ending x ys
