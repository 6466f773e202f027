-- What is written from attributes, the templates of `var` and the severities of diagnostics.
use Rattle.std.proofs.Common.{◌≡◌, Bool, false, List, ◌∷◌, refl, sym, ap, subst, ◌∙◌}
use Rattle.grammar.specs.Tokens.{span_between}
use Rattle.grammar.specs.Grammar.{Grammar.token, Grammar.symbol}
use Rattle.grammar.specs.Notation.{◌then◌, ◌gives◌, ◌makes◌, ◌▹◌, optional}
use Rattle.wgsl_model.specs.Tokens.ClassTable.{SymAttr, SymParenLeft, KwVar, KwDiagnostic, Ident, ReservedWord}
use Rattle.wgsl_model.specs.Tokens.Kind.{Kind, plain}
use Rattle.wgsl_model.specs.Tokens.Raw.{kind_of_word}
use Rattle.wgsl_model.specs.Trees.Spanned.{Spanned}
use Rattle.wgsl_model.specs.Trees.Attributes.{Attribute}
use Rattle.wgsl_model.specs.Grammar.TokenValues.{text_of}
use Rattle.wgsl_model.specs.Grammar.StatementParts.{attributes}
use Rattle.wgsl_model.specs.Grammar.Checks.{right, attribute_of, attribute_parts, attribute_node}
use Rattle.wgsl_model.specs.Grammar.Symbols.{ident, arguments, template_list, attribute, var_template, diagnostic_severity, Value}
use Rattle.wgsl_model.specs.Grammar.Written.{written, keyword_classes}
use Rattle.wgsl_theory_reread.specs.CanonicalExpressions.{optional_tokens}
use Rattle.wgsl_theory_reread.specs.CanonicalAttributes.{named_attribute_tokens, attribute_tokens, attributes_tokens}
use Rattle.wgsl_theory_reread.proofs.Again.{write, template_list_tokens}
use Rattle.wgsl_theory_reread.proofs.EachRule.AttributeRules.{template_written}
use Rattle.wgsl_theory_templates.proofs.Reaching.Moves.{kinds}
use Rattle.wgsl_theory_templates.proofs.Changes.Edits.{Edits, widen}
use Rattle.wgsl_theory_templates.proofs.Changes.EditWays.{Changed, Changes, then_edits, makes_edits, before_edits, optional_edits, many_edits}
use Rattle.wgsl_theory_templates.proofs.Changes.EditSymbols.{symbol_edits}
use Rattle.wgsl_theory_templates.proofs.Changes.EditRules.{word_kept}

-- ---- attributes
name_edits : {b : Bool} → Changes false b (token (Ident ∷ ReservedWord ∷ keyword_classes))
    (λ t rest. kind_of_word (text_of t) ∷ rest)
name_edits = record { edit = λ v xs ys d words. word_kept v xs ys d.0 d.1 words }

parts_edits : {b : Bool} → Changes false b (SymAttr ▹ token (Ident ∷ ReservedWord ∷ keyword_classes)
    then optional (symbol arguments) makes attribute_parts) (write attribute)
parts_edits = makes_edits (before_edits SymAttr (then_edits name_edits
    (optional_edits {e = false} tt (symbol_edits arguments tt)))) (λ a span rest. refl)

pub attribute_right : {b : Bool} → Changes false b (written attribute) (write attribute)
attribute_right {b} = record { edit = λ v xs ys d words. (parts_edits {b = b}).edit v xs ys d.1 words }

-- the attribute that is right, as a value of its own
node_of : (v : Value attribute) (a : Attribute) → attribute_of v.node ≡ right a → (attribute_node v).node ≡ a
node_of v a h = rw h refl

attribute_node_edits : {b : Bool} → Changes false b (symbol attribute gives attribute_node) attribute_tokens
attribute_node_edits {b} = record {
  edit = λ v xs ys d words.
      subst (λ (z : Spanned Attribute). Changed false b attribute_tokens z xs ys) d.1 (
      let found = d.2 words in
      let known = found.1 in (
        found.0,
        λ ks r. subst (λ (z : List Kind). Edits b (kinds xs) z)
            (sym (ap (λ (z : Attribute). plain SymAttr ∷ named_attribute_tokens z ks)
            (node_of d.0 known.0 known.1) ∙ ap (λ (z : List Kind). plain SymAttr ∷ z) (known.2 ks)))
            (widen {e = false} {b = b} tt (found.3 ks r)),
      )
      );
}

pub attributes_edits : {b : Bool} → Changes false b attributes attributes_tokens
attributes_edits = many_edits {e = false} tt attribute_node_edits

-- ---- `var` templates

pub var_template_right : {b : Bool} → Changes false b (written var_template) (write var_template)
var_template_right {b} = record {
  edit = λ v xs ys d words.
      let found = (template_edits {b = b}).edit v xs ys d.1 words in (
        found.0,
        λ ks r. subst (λ (z : List Kind). Edits b (kinds xs) z)
            (sym (template_written v (span_between xs ys) d.0 ks)) (found.1 ks r),
      );
}
  where
    template_edits : {b : Bool} → Changes false b (KwVar ▹ optional (symbol template_list))
        (λ v rest. plain KwVar ∷ optional_tokens template_list_tokens v rest)
    template_edits = before_edits KwVar (optional_edits {e = false} tt (symbol_edits template_list tt))

-- ---- severities
severity_edits : {b : Bool} → Changes false b (KwDiagnostic ▹ SymParenLeft ▹ symbol ident) (write diagnostic_severity)
severity_edits = before_edits KwDiagnostic (before_edits SymParenLeft (symbol_edits ident tt))

pub diagnostic_severity_right : {b : Bool} → Changes false b (written diagnostic_severity) (write diagnostic_severity)
diagnostic_severity_right {b} = record { edit = λ v xs ys d words. (severity_edits {b = b}).edit v xs ys d.1 words }
