-- Attributes, the templates of `var` and the severities of diagnostics are read again.
use Rattle.std.proofs.Common.{◌≡◌, ℕ, Bool, true, false, cond, List, ◌∷◌, Option, Some, None, refl, sym, ap, subst, ◌∙◌}
use Rattle.std.specs.Prelude.{◌==◌}
use Rattle.grammar.specs.Tokens.{Token, Span, Fault, span_between}
use Rattle.grammar.specs.Grammar.{Grammar.token, Grammar.symbol, Mode.checking, Means}
use Rattle.grammar.specs.Notation.{◌then◌, ◌gives◌, ◌makes◌, ◌▹◌, optional}
use Rattle.grammar.proofs.Reading.Depth.{roll, unroll}
use Rattle.wgsl_model.specs.Tokens.ClassTable.{SymAttr, SymParenLeft, KwVar, KwDiagnostic, Ident, ReservedWord}
use Rattle.wgsl_model.specs.Tokens.Kind.{Kind, plain}
use Rattle.wgsl_model.specs.Tokens.Raw.{kind_of_word}
use Rattle.wgsl_model.specs.Tokens.Words.{look_up}
use Rattle.wgsl_model.specs.Trees.NamedValues.{DiagnosticSeverity, severities, AddressSpace, AccessMode}
use Rattle.wgsl_model.specs.Faults.Kinds.{span_of_token, reserved_word, invalid_var_template, diagnostic_severity as fault_at}
use Rattle.wgsl_model.specs.Trees.Spanned.{Spanned}
use Rattle.wgsl_model.specs.Trees.Expressions.{ExpressionNode}
use Rattle.wgsl_model.specs.Trees.Attributes.{Attribute}
use Rattle.wgsl_model.specs.Trees.Statements.{var_kind}
use Rattle.wgsl_model.specs.Grammar.TokenValues.{text_of}
use Rattle.wgsl_model.specs.Grammar.TokenValues as values
use Rattle.wgsl_model.specs.Grammar.Checks.{Checked, right, wrong, right_in, fault_in, fault_unless, severity_fault, var_fault, var_kind_of, space_in_template, AttributeParts, attribute_of, attribute_parts, attribute_node}
use Rattle.wgsl_model.specs.Trees.WithoutSpans.{no_span, bare_spanned, bare_attribute}
use Rattle.wgsl_model.specs.Grammar.Symbols.{ident, arguments, template_list, attribute, var_template, diagnostic_severity}
use Rattle.wgsl_model.specs.Grammar.Written.{written, keyword_classes}
use Rattle.wgsl_theory_reread.specs.CanonicalExpressions.{optional_tokens}
use Rattle.wgsl_theory_reread.specs.CanonicalAttributes.{attribute_tokens}
use Rattle.wgsl_theory_reread.specs.CanonicalUnits.{without_place}
use Rattle.wgsl_theory_reread.proofs.Words.{AllWords}
use Rattle.wgsl_theory_reread.proofs.Again.{D, Again, write, Same, template_list_tokens, same_arguments}
use Rattle.wgsl_theory_reread.proofs.Ways.{Reads, Outcome, first_of, class_of, then_reads, makes_reads, before_reads, optional_reads}
use Rattle.wgsl_theory_reread.proofs.Rules.{symbol_reads}
use Rattle.wgsl_theory_reread.proofs.Names.PlainNames.{named}
use Rattle.wgsl_theory_reread.proofs.EachRule.AttributeTokens.{space_tokens, attribute_written}
use Rattle.wgsl_theory_reread.proofs.EachRule.AttributeLikeness.{space_alike, attribute_alike}

-- ---- what passes its check
pub no_fault : {A : Type 0} (c : Checked A) (fault : List ℕ → Fault) → fault_in c fault ≡ None → (a : A) × (c ≡ right a)
no_fault (right a) fault h = (a, refl)
no_fault (wrong text) fault h = absurd (cc)

-- ---- attributes
-- a name is the token that its word is
name_reads : Reads (token (Ident ∷ ReservedWord ∷ keyword_classes))
    (λ t rest. kind_of_word (text_of t) ∷ rest) (λ w v. text_of w ≡ text_of v)
name_reads = record {
  again = λ v xs ys d words.
      let here = subst AllWords d.1 words in (
        here.1,
        λ us ks e.
            let first = first_of (kind_of_word (text_of v)) ks us e in
            let same : without_place first.token ≡ without_place v = first.kind ∙ sym (here.0 d.0).0 in
            record {
              value = first.token;
              rest = first.rest;
              kinds = first.kinds;
              like = ap (λ (k : Kind). values.word_of k.class k.payload) same;
              derived = (
                class_of (without_place v) first.token (Ident ∷ ReservedWord ∷ keyword_classes) same d.0,
                first.whole,
              );
            },
      );
}

parts_read : Reads (SymAttr ▹ token (Ident ∷ ReservedWord ∷ keyword_classes)
    then optional (symbol arguments) makes attribute_parts) (write attribute) (Same attribute)
parts_read = makes_reads
    (before_reads SymAttr refl (then_reads name_reads (optional_reads (symbol_reads arguments))))
    (λ a span rest. refl) (λ w a s r h. h)

pub attribute_rule : (v : Spanned AttributeParts) (xs ys : List Token) → D attribute v xs ys
    → Means checking Again (written attribute) v xs ys → Again attribute v xs ys
attribute_rule v xs ys derived d words =
    let known = no_fault (attribute_of v.node) _ d.0 in
    let found = parts_read.again v xs ys d.1 words in (
      found.0,
      (known.0, known.1, attribute_written v.node known.0 (named attribute v xs ys derived words).1 known.1),
      λ us ks e.
          let x = found.1 us ks e in
          let same = attribute_alike x.value.node v.node known.0 x.like.0 x.like.1 known.1 in
          record {
            value = x.value;
            rest = x.rest;
            kinds = x.kinds;
            like = x.like;
            derived = roll checking written attribute x.value us x.rest (rw same.1 refl, x.derived);
          },
    )

-- the attribute that is right, as a value of its own
pub node_of : (v : Spanned AttributeParts) (a : Attribute) → attribute_of v.node ≡ right a → (attribute_node v).node ≡ a
node_of v a h = rw h refl

pub attribute_node_reads : Reads (symbol attribute gives attribute_node) attribute_tokens
    (λ w v. bare_spanned bare_attribute w ≡ bare_spanned bare_attribute v)
attribute_node_reads = record {
  again = λ v xs ys d words.
      subst (λ (z : Spanned Attribute). Outcome (symbol attribute gives attribute_node) attribute_tokens
      (λ w v. bare_spanned bare_attribute w ≡ bare_spanned bare_attribute v) z ys) d.1 (
      let found = d.2 words in
      let known = found.1 in (
        found.0,
        λ us ks e.
            let x = found.2 us ks (e ∙ ap (λ (z : Attribute).
            attribute_tokens (record { node = z; span = (attribute_node d.0).span }) ks)
            (node_of d.0 known.0 known.1) ∙ ap (λ (z : List Kind). plain SymAttr ∷ z) (known.2 ks)) in
            let same = attribute_alike x.value.node d.0.node known.0 x.like.0 x.like.1 known.1 in
            record {
              value = attribute_node x.value;
              rest = x.rest;
              kinds = x.kinds;
              like = ap (λ (z : Attribute). record { node = z; span = no_span })
                  (ap bare_attribute (node_of x.value same.0 same.1) ∙ same.2
                  ∙ ap bare_attribute (sym (node_of d.0 known.0 known.1)));
              derived = (x.value, refl, x.derived);
            },
      )
      );
}

-- ---- `var` templates
-- what a check of a template returns has no spans
fault_alike : (v : Option (List ExpressionNode)) (span : Span) → var_fault (same_arguments v) span ≡ var_fault v span
fault_alike None span = refl
fault_alike (Some es) span = ap (λ (z : Checked (AddressSpace × Option AccessMode)). fault_in z
    (λ text. invalid_var_template text span)) (space_alike es)

kind_alike : (v : Option (List ExpressionNode)) → var_kind_of (same_arguments v) ≡ var_kind_of v
kind_alike None = refl
kind_alike (Some es) = ap (λ (z : Checked (AddressSpace × Option AccessMode)). var_kind (right_in z)) (space_alike es)

-- a fault is none, wherever it is
anywhere : (v : Option (List ExpressionNode)) (s r : Span) → var_fault v s ≡ None → var_fault v r ≡ None
anywhere None s r h = refl
anywhere (Some es) s r h = let known = no_fault (space_in_template es) _ h in rw known.1 refl

pub template_written : (v : Option (List ExpressionNode)) (span : Span) → var_fault v span ≡ None
    → (rest : List Kind)
    → write var_template v rest ≡ plain KwVar ∷ optional_tokens template_list_tokens v rest
template_written None span h rest = refl
template_written (Some es) span h rest =
    let known = no_fault (space_in_template es) _ h in
    rw known.1 (ap (λ (z : List Kind). plain KwVar ∷ z) (space_tokens es known.0 known.1 rest))

template_reads : Reads (KwVar ▹ optional (symbol template_list))
    (λ v rest. plain KwVar ∷ optional_tokens template_list_tokens v rest)
    (λ w v. same_arguments w ≡ same_arguments v)
template_reads = before_reads KwVar refl (optional_reads (symbol_reads template_list))

pub var_template_rule : (v : Option (List ExpressionNode)) (xs ys : List Token)
    → Means checking Again (written var_template) v xs ys → Again var_template v xs ys
var_template_rule v xs ys d words =
    let found = template_reads.again v xs ys d.1 words in (
      found.0,
      tt,
      λ us ks e.
          let x = found.1 us ks (e ∙ template_written v (span_between xs ys) d.0 ks) in
          let passes : var_fault x.value (span_between xs ys) ≡ None =
          sym (fault_alike x.value (span_between xs ys)) ∙ ap (λ (z : Option (List ExpressionNode)).
          var_fault z (span_between xs ys)) x.like ∙ fault_alike v (span_between xs ys) ∙ d.0 in
          record {
            value = x.value;
            rest = x.rest;
            kinds = x.kinds;
            like = sym (kind_alike x.value) ∙ ap var_kind_of x.like ∙ kind_alike v;
            derived = roll checking written var_template x.value us x.rest
                (anywhere x.value (span_between xs ys) (span_between us x.rest) passes, x.derived);
          },
    )

-- ---- severities
severity_reads : Reads (KwDiagnostic ▹ SymParenLeft ▹ symbol ident) (write diagnostic_severity)
    (Same diagnostic_severity)
severity_reads = before_reads KwDiagnostic refl (before_reads SymParenLeft refl (symbol_reads ident))

-- an identifier is no reserved word
unreserved_ident : (v : Token) (xs ys : List Token) → D ident v xs ys → (v.class == ReservedWord) ≡ false
unreserved_ident v xs ys derived = go (v.class == ReservedWord) (unroll checking written ident v xs ys derived).0 where
  go : (b : Bool) → cond b (Some (reserved_word (text_of v) (span_between xs ys))) None ≡ None → b ≡ false
  go true h = absurd (cc)
  go false h = refl

-- the identifier that a severity is
severity_ident : (v : Token) (xs ys : List Token)
    → Means checking D (written diagnostic_severity) v xs ys → (v.class == ReservedWord) ≡ false
severity_ident v xs ys d = subst (λ (t : Token). (t.class == ReservedWord) ≡ false)
    (d.1.2.2.1 ∙ d.1.1) (unreserved_ident d.1.2.2.0.1 d.1.2.2.2.0 ys d.1.2.2.2.2)

-- a word that passes names a severity
severity_there : (o : Option DiagnosticSeverity) (fault : Fault) → fault_unless o fault ≡ None
    → (s : DiagnosticSeverity) × (o ≡ Some s)
severity_there None fault h = absurd (cc)
severity_there (Some s) fault h = (s, refl)

-- a word that names a severity passes
severity_passes : (t : Token) (s : DiagnosticSeverity) → look_up severities (text_of t) ≡ Some s
    → severity_fault t ≡ None
severity_passes t s h = rw h (go (t.class == ReservedWord)) where
  go : (b : Bool) → cond b None (fault_unless (Some s) (fault_at (span_of_token t))) ≡ None
  go true = refl
  go false = refl

pub diagnostic_severity_rule : (v : Token) (xs ys : List Token) → D diagnostic_severity v xs ys
    → Means checking Again (written diagnostic_severity) v xs ys → Again diagnostic_severity v xs ys
diagnostic_severity_rule v xs ys derived d words =
    let unreserved = severity_ident v xs ys (unroll checking written diagnostic_severity v xs ys derived) in
    let known = severity_there (look_up severities (text_of v)) (fault_at (span_of_token v)) (rw unreserved at d.0) in
    let found = severity_reads.again v xs ys d.1 words in (
      found.0,
      known,
      λ us ks e.
          let x = found.1 us ks e in
          record {
            value = x.value;
            rest = x.rest;
            kinds = x.kinds;
            like = x.like;
            derived = roll checking written diagnostic_severity x.value us x.rest (
              severity_passes x.value known.0 (ap (λ (z : List ℕ). look_up severities z) x.like ∙ known.1),
              x.derived,
            );
          },
    )
