-- What the rules of attributes, of `var` templates and of severities derive is derived wherever the
-- tokens are.
use Rattle.std.proofs.Common.{◌≡◌, Bool, true, false, cond, List, map, Option, Some, None, refl, sym, ap, ◌∙◌}
use Rattle.std.specs.Prelude.{◌==◌}
use Rattle.grammar.specs.Tokens.{Span, Fault}
use Rattle.wgsl_model.specs.Tokens.ClassTable.{SymAttr, SymParenLeft, KwVar, KwDiagnostic, ReservedWord}
use Rattle.wgsl_model.specs.Tokens.Words.{look_up}
use Rattle.wgsl_model.specs.Trees.NamedValues.{DiagnosticSeverity, severities, AddressSpace, AccessMode}
use Rattle.wgsl_model.specs.Trees.Spanned.{Spanned}
use Rattle.wgsl_model.specs.Trees.Expressions.{ExpressionNode}
use Rattle.wgsl_model.specs.Trees.Attributes.{Attribute}
use Rattle.wgsl_model.specs.Trees.Statements.{var_kind}
use Rattle.wgsl_model.specs.Grammar.TokenValues.{text_of}
use Rattle.wgsl_model.specs.Grammar.Checks.{Checked, right_in, fault_unless, var_fault, var_kind_of, space_in_template, AttributeParts, attribute_of, attribute_fault}
use Rattle.wgsl_model.specs.Trees.WithoutSpans.{no_span, bare_spanned, bare_expression_node, bare_attribute, bare_attributes}
use Rattle.wgsl_model.specs.Grammar.StatementParts.{attributes}
use Rattle.wgsl_model.specs.Grammar.Symbols.{ident, arguments, template_list, attribute, var_template, diagnostic_severity}
use Rattle.wgsl_model.specs.Grammar.Written.{written}
use Rattle.wgsl_theory_reread.proofs.Again.{same_arguments}
use Rattle.wgsl_theory_reread.proofs.EachRule.AttributeLikeness.{space_alike, attribute_alike}
use Rattle.wgsl_theory_reread.proofs.EachRule.AttributeRules.{no_fault, node_of}
use Rattle.wgsl_theory_tidy.proofs.Moved.Alike.{Alike}
use Rattle.wgsl_theory_tidy.proofs.Moved.Ways.{MovesBy, token_moves, symbol_moves, then_moves, gives_moves, makes_moves, check_moves, before_moves, optional_moves, many_moves}
use Rattle.wgsl_theory_tidy.proofs.Moved.ExpressionRules.{same_class, same_text}

-- ---- attributes
-- two attributes have one name, and arguments that differ by spans alone
abbrev SameParts : Spanned AttributeParts → Spanned AttributeParts → Type 0
SameParts w v = (w.node.name ≡ v.node.name) × (same_arguments w.node.arguments ≡ same_arguments v.node.arguments)

passes_alike : (w v : Spanned AttributeParts) (s r : Span) → SameParts w v
    → attribute_fault v r ≡ None → (attribute_fault w s ≡ None) × Alike attribute w v
passes_alike w v s r h k =
    let known = no_fault (attribute_of v.node) _ k in
    let same = attribute_alike w.node v.node known.0 h.0 h.1 known.1 in (
      rw same.1 refl,
      ap (λ (z : Attribute). record { node = z; span = no_span }) (ap bare_attribute
          (node_of w same.0 same.1) ∙ same.2 ∙ sym (ap bare_attribute (node_of v known.0 known.1))),
    )

pub attribute_moves : MovesBy (written attribute) (Alike attribute)
attribute_moves = check_moves {like = SameParts} (makes_moves (before_moves SymAttr
    (then_moves (token_moves _) (optional_moves {bare = map bare_expression_node} (symbol_moves arguments))))
    (λ w v s r h. (same_text w.0 v.0 h.0, h.1))) passes_alike

pub attributes_move : MovesBy attributes (λ w v. bare_attributes w ≡ bare_attributes v)
attributes_move = many_moves {bare = bare_spanned bare_attribute} (gives_moves (symbol_moves attribute) (λ w v h. h))

-- ---- `var` templates
template_alike : (w v : Option (List ExpressionNode)) (s r : Span) → same_arguments w ≡ same_arguments v
    → var_fault v r ≡ None → (var_fault w s ≡ None) × (var_kind_of w ≡ var_kind_of v)
template_alike None None s r h k = (refl, refl)
template_alike None (Some fs) s r h k = absurd (cc)
template_alike (Some es) None s r h k = absurd (cc)
template_alike (Some es) (Some fs) s r h k =
    let known = no_fault (space_in_template fs) _ k in
    let bare : map bare_expression_node es ≡ map bare_expression_node fs = cc in
    let same : space_in_template es ≡ space_in_template fs = sym (space_alike es)
    ∙ ap space_in_template bare ∙ space_alike fs in
    (rw (same ∙ known.1) refl, ap (λ (z : Checked (AddressSpace × Option AccessMode)). var_kind (right_in z)) same)

pub var_template_moves : MovesBy (written var_template) (Alike var_template)
var_template_moves = check_moves (before_moves KwVar
    (optional_moves {bare = map bare_expression_node} (symbol_moves template_list))) template_alike

-- ---- severities
-- whether there is a fault does not depend on which
severity_alike : (b c : Bool) (o p : Option DiagnosticSeverity) (x y : Fault) → b ≡ c → o ≡ p
    → cond c None (fault_unless p y) ≡ None → cond b None (fault_unless o x) ≡ None
severity_alike true c o p x y e q h = refl
severity_alike false c (Some s) p x y e q h = refl
severity_alike false true None p x y e q h = absurd (cc)
severity_alike false false None None x y e q h = absurd (cc)
severity_alike false false None (Some s) x y e q h = absurd (cc)

pub diagnostic_severity_moves : MovesBy (written diagnostic_severity) (Alike diagnostic_severity)
diagnostic_severity_moves =
    check_moves (before_moves KwDiagnostic (before_moves SymParenLeft (symbol_moves ident)))
    (λ w v s r h k. (
      severity_alike (w.class == ReservedWord) (v.class == ReservedWord) (look_up severities (text_of w))
          (look_up severities (text_of v)) _ _ (ap (λ c. c == ReservedWord) (same_class w v h))
          (ap (look_up severities) (same_text w v h)) k,
      h,
    ))
