use Rattle.std.proofs.Common.{rules, ◌+◌, ◌≡◌, sym, ◌∙◌, ap, true, false, if◌then◌else◌, ◌∷◌, [], ◌++◌, codes, take}
use Rattle.std.proofs.lemmas.List.{append-nil}
use Rattle.std.proofs.Output.{has_written_append, has_written_of_eq}
use Rattle.wgsl_model.specs.Printed.Joining.{joined}
use Rattle.wgsl_model.specs.Printed.Units.{print_global_declaration, is_void}
use Rattle.wgsl_span.specs.Spanned.{spanned_node}
use Rattle.wgsl_tree_unit.specs.View.{global_declaration_view}
use Rattle.wgsl_tree_unit.proofs.Shown.{before_next, before_more, joined_more, shown, shown_more}
use Rattle.wgsl_tree_unit.proofs.unit.TranslationUnitDisplay.fmt.Goals as goal

pub declarations-preserved-then-is_void : goal.declarations-preserved-then-is_void
declarations-preserved-then-is_void g c =
    let separator = codes "\n\n" in
    let items = c.deref-declaration-items.result.now in
    let k = c.declarations.declaration-index in
    let item = c.declaration-item.result in
    let declaration = global_declaration_view (spanned_node item) in
    let texts = shown (take k items) in
    let empty : is_void declaration ≡ true = ap (λ d. is_void (global_declaration_view d))
    (sym c.node.ensures) ∙ sym c.is_void.ensures ∙ c.if-is_void.true in
    let same : shown (take (k + 1) items) ≡ texts =
    shown_more items k item (search rules) c.declaration-item.is
    ∙ ap (λ b. texts ++ (if b then [] else print_global_declaration declaration ∷ [])) empty
    ∙ append-nil texts in
    record {
      before = c.declarations.invariant.before ∙ ap (before_next separator) (sym same);
      utf8 = search rules;
      written = λ plain. has_written_of_eq _ _ _ _ _ (ap (joined separator) (sym same))
          (c.declarations.invariant.written plain);
    }

pub declarations-preserved : goal.declarations-preserved
declarations-preserved g c =
    let separator = codes "\n\n" in
    let items = c.deref-declaration-items.result.now in
    let k = c.declarations.declaration-index in
    let item = c.declaration-item.result in
    let declaration = global_declaration_view (spanned_node item) in
    let texts = shown (take k items) in
    let text = print_global_declaration declaration in
    let not_empty : is_void declaration ≡ false = ap (λ d. is_void (global_declaration_view d))
    (sym c.node.ensures) ∙ sym c.is_void.ensures ∙ c.if-is_void.false in
    let more : shown (take (k + 1) items) ≡ texts ++ (text ∷ []) =
    shown_more items k item (search rules) c.declaration-item.is
    ∙ ap (λ b. texts ++ (if b then [] else text ∷ [])) not_empty in
    record {
      before = sym (ap (before_next separator) more ∙ before_more separator texts text);
      utf8 = search rules;
      written = λ plain.
          let first = c.declarations.invariant.written plain in
          has_written_of_eq _ _ _ _ _
          (ap (λ gap. joined separator texts ++ (gap ++ text)) c.declarations.invariant.before
          ∙ sym (ap (joined separator) more ∙ joined_more separator texts text))
          (has_written_append _ _ _ _ _ _ first (c.write.ensures.writes first.plain (search rules)));
    }
