use Rattle.std.proofs.Common.{◌≡◌, refl, sym, ap, ◌∙◌, true, false, true≢false, List, [], ◌∷◌, ◌++◌, ◌==◌, length, map, codes, arith, inl, inr}
use Rattle.std.proofs.lemmas.List.{append-nil}
use Rattle.std.proofs.lemmas.Bool.Decides.{eqb_tells}
use Rattle.wgsl_model.specs.Trees.Attributes as plain
use Rattle.wgsl_model.specs.Printed.Joining.{joined}
use Rattle.wgsl_model.specs.Trees.Spanned as plain_tree
use Rattle.wgsl_model.specs.Printed.Attributes.{print_attribute, print_attributes, print_attribute_line}
use Rattle.wgsl_span.specs.declared.Spanned.{Spanned}
use Rattle.wgsl_tree_attribute.specs.declared.attribute.Attribute.{Attribute}
use Rattle.wgsl_tree_attribute.specs.View.{attributes_view}
use Rattle.wgsl_writer.proofs.Through.{wrote_nothing, wrote_of_eq}
use Rattle.wgsl_tree_simple.proofs.Writes.{◌▸◌}
use Rattle.wgsl_tree_simple.proofs.attributes.write_attribute_line.Goals as goal

no_line : (xs : List (Spanned Attribute)) → (length xs == 0) ≡ true → [] ≡ print_attribute_line (attributes_view xs)
no_line [] e = refl
no_line (x ∷ xs) e = elim (eqb_tells (length (x ∷ xs)) 0) [
  | inl h ↦ absurd (omega (arith, h.1))
  | inr h ↦ absurd (true≢false (sym e ∙ h.0))
]

line_is : (xs : List (Spanned Attribute)) → (length xs == 0) ≡ false
    → print_attributes [] (attributes_view xs) ++ codes "\n" ≡ print_attribute_line (attributes_view xs)
line_is [] e = absurd (true≢false e)
line_is (x ∷ xs) e =
    let shown = joined (codes " ")
    (map (λ (a : plain_tree.Spanned plain.Attribute). print_attribute a.node) (attributes_view (x ∷ xs))) in
    ap (λ z. z ++ codes "\n") (append-nil shown)

pub returns-then-is_empty : goal.returns-then-is_empty
returns-then-is_empty g c = λ ok.
    let list = c.as_slice-list.result.now in
    wrote_of_eq _ _ _ _ _ (no_line list (sym c.is_empty.ensures ∙ c.if-is_empty.true)
    ∙ ap (λ (xs : List (Spanned Attribute)). print_attribute_line (attributes_view xs)) c.as_slice-list.ensures.value)
    (wrote_nothing g.W.Write.write_str_gives _)

pub returns : goal.returns
returns g c = λ ok.
    let list = c.as_slice-list.result.now in
    wrote_of_eq _ _ _ _ _ (line_is list (sym c.is_empty.ensures ∙ c.if-is_empty.false)
    ∙ ap (λ (xs : List (Spanned Attribute)). print_attribute_line (attributes_view xs)) c.as_slice-list.ensures.value)
    (c.in_ok-write_value.ensures refl ▸ c.write_line_end.ensures ok)
