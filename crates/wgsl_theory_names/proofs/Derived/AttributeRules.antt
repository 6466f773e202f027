-- What the rules of attributes, of `var` templates and of severities derive of renamed tokens.
use Rattle.std.proofs.Common.{◌≡◌, List, ◌∷◌, map, refl, sym, ap, subst, ◌∙◌, inl, inr}
use Rattle.grammar.specs.Tokens.{Token, span_between}
use Rattle.grammar.specs.Grammar.{Grammar.token, Grammar.symbol, Mode.checking, Means}
use Rattle.grammar.specs.Notation.{◌then◌, ◌makes◌, ◌▹◌, optional}
use Rattle.wgsl_model.specs.Tokens.ClassTable.{SymAttr, Ident, ReservedWord}
use Rattle.wgsl_model.specs.Trees.Spanned.{Spanned}
use Rattle.wgsl_model.specs.Trees.Attributes.{Attribute}
use Rattle.wgsl_model.specs.Grammar.Checks.{Checked, right, var_kind_of, AttributeParts, attribute_parts, attribute_of, attribute_fault, attribute_node}
use Rattle.wgsl_model.specs.Grammar.StatementParts.{attributes}
use Rattle.wgsl_model.specs.Grammar.Symbols.{arguments, attribute, var_template, diagnostic_severity}
use Rattle.wgsl_model.specs.Grammar.Written.{written, keyword_classes}
use Rattle.wgsl_theory_reread.proofs.Again.{D}
use Rattle.wgsl_theory_reread.proofs.EachRule.AttributeRules.{no_fault, node_of}
use Rattle.wgsl_model_names.specs.Renamed.{Renaming, renamed_node, renamed_attribute, renamed_spanned, renamed_attributes}
use Rattle.wgsl_theory_names.proofs.Derived.Renews.{Renamed, Renewed}
use Rattle.wgsl_theory_names.proofs.Derived.Ways.{RenamesBy, token_renames, symbol_renames, then_renames, gives_renames, makes_renames, alike_renames, before_renames, optional_renames, many_renames, kept_by}
use Rattle.wgsl_theory_names.proofs.Derived.AttributeNames.{Turned, renamed_parts, name_turns}

module _ {f : Renaming} where
  parts_rename : RenamesBy f (SymAttr ▹ token (Ident ∷ ReservedWord ∷ keyword_classes)
      then optional (symbol arguments) makes attribute_parts) (λ w v. w ≡ renamed_parts f v)
  parts_rename = makes_renames (before_renames SymAttr (then_renames (token_renames _)
      (optional_renames {change = map (renamed_node f)} (symbol_renames arguments))))
      (λ w v s h. λ i. attribute_parts (h.0 i, h.1 i) s)

  -- an attribute with renamed arguments where it has names, and as it is where it has none
  one_of_both : (v : Spanned AttributeParts) (xs zs : List Token) (a : Attribute) → attribute_of v.node ≡ right a
      → Turned f (right a) (attribute_of (renamed_parts f v).node)
      → Renewed f (Means checking D (SymAttr ▹ token (Ident ∷ ReservedWord ∷ keyword_classes)
      then optional (symbol arguments) makes attribute_parts)) (λ w. w ≡ renamed_parts f v) xs zs
      → Renewed f (Means checking D (written attribute)) (λ w. w ≡ v) xs zs
      → Renewed f (Means checking D (written attribute)) (λ w. Renamed f attribute w v) xs zs
  one_of_both v xs zs a known (inl turned) r kept = record {
    value = r.value;
    tokens = r.tokens;
    renamed = r.renamed;
    like = ap attribute_node r.like ∙ (λ i. record {
      node = (node_of (renamed_parts f v) (renamed_attribute f a) turned
          ∙ sym (ap (renamed_attribute f) (node_of v a known))) i;
      span = v.span;
    });
    derived = (
      (λ i. attribute_fault (r.like i) (span_between r.tokens zs)) ∙ rw turned refl,
      r.derived,
    );
  }
  one_of_both v xs zs a known (inr nameless) r kept = record {
    value = kept.value;
    tokens = kept.tokens;
    renamed = kept.renamed;
    like = ap attribute_node kept.like ∙ (λ i. record {
      node = (node_of v a known ∙ sym nameless ∙ sym (ap (renamed_attribute f) (node_of v a known))) i;
      span = v.span;
    });
    derived = kept.derived;
  }

  pub attribute_renames : RenamesBy f (written attribute) (Renamed f attribute)
  attribute_renames = record {
    renames = λ fixes v xs ys d zs e.
        let known = no_fault (attribute_of v.node) _ d.0 in
        one_of_both v xs zs known.0 known.1
        (subst (λ (c : Checked Attribute). Turned f c (attribute_of (renamed_parts f v).node)) known.1
        (name_turns f v.node.name v.node.arguments))
        (parts_rename.renames fixes v xs ys d.1 zs e)
        ((kept_by (written attribute)).renames fixes v xs ys d zs e);
  }

  pub attributes_rename : RenamesBy f attributes (λ w v. w ≡ renamed_attributes f v)
  attributes_rename = many_renames {change = renamed_spanned (renamed_attribute f)}
      (gives_renames (symbol_renames attribute) (λ w v h. h))

  -- ---- `var` templates and severities
  pub var_template_renames : RenamesBy f (written var_template) (Renamed f var_template)
  var_template_renames = alike_renames (kept_by (written var_template)) (λ w v h. ap var_kind_of h)

  pub diagnostic_severity_renames : RenamesBy f (written diagnostic_severity) (Renamed f diagnostic_severity)
  diagnostic_severity_renames = kept_by (written diagnostic_severity)
