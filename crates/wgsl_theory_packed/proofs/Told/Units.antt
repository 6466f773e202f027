-- Modules, their directives and their declarations are told apart.
use Rattle.std.proofs.Common.{ℕ, ◌≡◌, ◌==◌, refl, sym, ap, ◌∙◌, Bool, true, false, List, [], ◌∷◌, Option, Some, None}
use Rattle.grammar.specs.Tokens.{Span}
use Rattle.wgsl_model.specs.Printed.Units.{is_void}
use Rattle.wgsl_model.specs.Trees.Spanned.{spanned}
use Rattle.wgsl_model.specs.Trees.Attributed.{with_attributes, without_attributes}
use Rattle.wgsl_model.specs.Trees.Attributes.{Attributes}
use Rattle.wgsl_model.specs.Trees.Expressions.{TypeExpression}
use Rattle.wgsl_model.specs.Trees.Statements.{assert_of}
use Rattle.wgsl_model.specs.Trees.Units.{UnattributedDirective, diagnostic, enable, requires, UnattributedDeclaration, void, declaration, type_alias, structure, function, const_assert}
use Rattle.wgsl_model_packed.specs.Rules.{nothing_rule, names_rule, name_rule, parts_rule, part_rule, empty_end_rule, members_rule, last_member_rule, directives_rule, last_directive_rule, first_declaration_rule, declarations_rule, void_item_rule}
use Rattle.wgsl_model_packed.specs.Attributes.{packed_attribute_line}
use Rattle.wgsl_model_packed.specs.Units.{packed_names, packed_directive_after, packed_directive, packed_member, packed_member_node, packed_members, packed_parameter, packed_result, packed_function, packed_declaration_after, packed_global_declaration, packed_declarations, packed_unit}
use Rattle.wgsl_theory_packed.specs.Fits.{Every, SpanFits, AttributesFit, DirectiveFits, MemberFits, ParameterFits, ResultFits, FunctionFits, UnattributedDeclarationFits, GlobalDeclarationFits, GlobalItemFits, UnitFits}
use Rattle.wgsl_theory_packed.proofs.Told.Forms.{Tells, AreTold, so, ◌▸◌, same, turned, after_rule, item_form, told_item, apart, of_one, of_two, of_three, told_text, told_span, told_list}
use Rattle.wgsl_theory_packed.proofs.Told.Words.{told_severity}
use Rattle.wgsl_theory_packed.proofs.Told.Expressions.{told_node, told_type}
use Rattle.wgsl_theory_packed.proofs.Told.Attributes.{told_attribute_line, told_attributes_before, led}
use Rattle.wgsl_theory_packed.proofs.Told.Statements.{told_declaration, told_compound}

-- ---- directives
-- nothing is asked of names
each : (names : List (List ℕ)) → Every (λ name. Unit {0}) names
each [] = tt
each (name ∷ names) = (tt, each names)

told_names : (a b : List (List ℕ)) → Tells (packed_names a) (packed_names b) (a ≡ b)
told_names a b = told_list {Fit = λ name. Unit {0}} nothing_rule names_rule name_rule refl refl refl
    (λ a h b k. told_text a b) a (each a) b (each b)

pub told_directive : AreTold DirectiveFits packed_directive
told_directive x h y k = told x.node x.attributes h y.node y.attributes k where
  told : (x : UnattributedDirective) (a : Attributes) → AttributesFit a → (y : UnattributedDirective) (b : Attributes)
      → AttributesFit b → Tells (packed_directive_after (packed_attribute_line a) x)
      (packed_directive_after (packed_attribute_line b) y) (with_attributes a x ≡ with_attributes b y)
  told (diagnostic x) a h (diagnostic y) b k = of_three (λ attributes severity rule_name.
      with_attributes attributes (diagnostic (record { severity = severity; rule_name = rule_name })))
      (after_rule (told_attribute_line a h b k
      ▸ told_severity x.severity y.severity ▸ told_text x.rule_name y.rule_name))
  told (enable x) a h (enable y) b k =
      led (λ a names. with_attributes a (enable (record { extensions = names }))) a h b k
      (told_names x.extensions y.extensions)
  told (requires x) a h (requires y) b k =
      led (λ a names. with_attributes a (requires (record { extensions = names }))) a h b k
      (told_names x.extensions y.extensions)
  told x a h y b k = apart refl

-- ---- members, parameters and functions
pub told_member : AreTold MemberFits packed_member
told_member m h n k =
    of_three (λ attributes ident ty. record { attributes = attributes; ident = ident; ty = ty })
    (after_rule (told_attribute_line m.attributes h.0 n.attributes k.0
    ▸ told_text m.ident n.ident ▸ told_type m.ty h.1 n.ty k.1))

pub told_parameter : AreTold ParameterFits packed_parameter
told_parameter p h q k =
    of_three (λ attributes ident ty. record { attributes = attributes; ident = ident; ty = ty })
    (after_rule (told_attributes_before p.attributes h.0 q.attributes k.0
    ▸ told_text p.ident q.ident ▸ told_type p.ty h.1 q.ty k.1))

told_member_node : AreTold (λ m. SpanFits m.span × MemberFits m.node) packed_member_node
told_member_node m h n k = of_two (λ span node. spanned node span)
    (told_span m.span h.0 n.span k.0 ▸ told_member m.node h.1 n.node k.1)

told_members : AreTold (Every (λ m. SpanFits m.span × MemberFits m.node)) packed_members
told_members = told_list empty_end_rule members_rule last_member_rule refl refl refl told_member_node

told_result : (a : Attributes) (s : Option TypeExpression) → ResultFits a s → (b : Attributes)
    (t : Option TypeExpression) → ResultFits b t → Tells (packed_result a s) (packed_result b t) ((a ≡ b) × (s ≡ t))
told_result a None h b None k = so (λ d. (h ∙ sym k, d)) same
told_result a (Some s) h b (Some t) k = so (λ d. (d.0, ap (λ t. Some t) d.1))
    (after_rule (told_attributes_before a h.0 b k.0 ▸ told_type s h.1 t k.1))
told_result a s h b t k = apart refl

told_function : AreTold FunctionFits packed_function
told_function f h g k = so (λ d i. record {
  ident = d.0 i;
  parameters = d.1.0 i;
  return_attributes = d.1.1.0.0 i;
  return_type = d.1.1.0.1 i;
  body = d.1.1.1 i;
}) (told_text f.ident g.ident
    ▸ told_list nothing_rule parts_rule part_rule refl refl refl told_parameter f.parameters h.0 g.parameters k.0
    ▸ told_result f.return_attributes f.return_type h.1 g.return_attributes g.return_type k.1
    ▸ told_compound f.body h.2 g.body k.2)

-- ---- declarations
-- what is after the attributes of a declaration, and these
told_declaration_after : (x : UnattributedDeclaration) → UnattributedDeclarationFits x → (a : Attributes)
    → AttributesFit a → (y : UnattributedDeclaration) → UnattributedDeclarationFits y → (b : Attributes)
    → AttributesFit b → Tells (packed_declaration_after (packed_attribute_line a) x)
    (packed_declaration_after (packed_attribute_line b) y) (with_attributes a x ≡ with_attributes b y)
told_declaration_after void h a f void k b g =
    of_one (λ attributes. with_attributes attributes void) (after_rule (after_rule (told_attribute_line a f b g)))
told_declaration_after (declaration x) h a f (declaration y) k b g =
    after_rule (led (λ a d. with_attributes a (declaration d)) a f b g (told_declaration x h y k))
told_declaration_after (type_alias x) h a f (type_alias y) k b g =
    of_three (λ attributes ident ty. with_attributes attributes (type_alias (record { ident = ident; ty = ty })))
    (after_rule (told_attribute_line a f b g
    ▸ told_text x.ident y.ident ▸ told_type x.ty h y.ty k))
told_declaration_after (structure x) h a f (structure y) k b g =
    of_three (λ attributes ident members. with_attributes attributes
    (structure (record { ident = ident; members = members }))) (after_rule (told_attribute_line a f b g
    ▸ told_text x.ident y.ident ▸ told_members x.members h y.members k))
told_declaration_after (function x) h a f (function y) k b g =
    led (λ a its. with_attributes a (function its)) a f b g (told_function x h y k)
told_declaration_after (const_assert x) h a f (const_assert y) k b g =
    after_rule (led (λ a e. with_attributes a (const_assert (assert_of e))) a f b g
    (told_node x.expression h y.expression k))
told_declaration_after void h a f (declaration y) k b g = after_rule (apart refl)
told_declaration_after void h a f (const_assert y) k b g = after_rule (apart refl)
told_declaration_after (declaration x) h a f void k b g = after_rule (apart refl)
told_declaration_after (declaration x) h a f (const_assert y) k b g = after_rule (apart refl)
told_declaration_after (const_assert x) h a f void k b g = after_rule (apart refl)
told_declaration_after (const_assert x) h a f (declaration y) k b g = after_rule (apart refl)
told_declaration_after x h a f y k b g = apart refl

pub told_global_declaration : AreTold GlobalDeclarationFits packed_global_declaration
told_global_declaration x h y k =
    told_declaration_after x.node h.1 x.attributes h.0 y.node k.1 y.attributes k.0

-- ---- modules
-- declarations do not begin as none
some_declarations : {E : Type 0} (first : ℕ) → (nothing_rule == first) ≡ false → (b : Bool) (s : Span) (f g : List ℕ)
    → Tells (nothing_rule ∷ []) (item_form first b s f g) E
some_declarations first differs true s f g = apart refl
some_declarations first differs false s f g = apart differs

told_declarations : (first : ℕ) → (nothing_rule == first) ≡ false → (void_item_rule == first) ≡ false
    → AreTold (Every GlobalItemFits) (packed_declarations first)
told_declarations first n v [] h [] k = same
told_declarations first n v [] h (y ∷ ys) k = some_declarations first n (is_void y.node) y.span _ _
told_declarations first n v (x ∷ xs) h [] k = turned (some_declarations first n (is_void x.node) x.span _ _)
told_declarations first n v (x ∷ xs) h (y ∷ ys) k = told_item first v (without_attributes void)
    (λ d s ds. spanned d s ∷ ds) (is_void x.node) (is_void y.node) x.node y.node h.0.2 k.0.2 x.span y.span h.0.0 k.0.0
    (told_declarations first n v xs h.1 ys k.1) (told_global_declaration x.node h.0.1 y.node k.0.1
    ▸ told_declarations declarations_rule refl refl xs h.1 ys k.1)

pub told_unit : AreTold UnitFits packed_unit
told_unit u h v k = of_two (λ directives declarations.
    record { global_directives = directives; global_declarations = declarations })
    (after_rule (told_list nothing_rule directives_rule last_directive_rule refl refl refl told_directive
    u.global_directives h.0 v.global_directives k.0 ▸ told_declarations first_declaration_rule refl refl
    u.global_declarations h.1 v.global_declarations k.1))
