use Rattle.std.proofs.Common.{◌≡◌, sym, ap, ◌∙◌, arith, List, [], ◌∷◌, ◌++◌, length, true, false}
use Rattle.std.proofs.lemmas.List.{nil_from_length}
use Rattle.std.specs.Vec.Iter.{into_iter_items}
use Rattle.wgsl_model.specs.Printed.Units.{is_void}
use Rattle.wgsl_model_packed.specs.Printing.{packed_span}
use Rattle.wgsl_model_packed.specs.Rules.{first_declaration_rule, void_item_rule}
use Rattle.wgsl_model_packed.specs.Units.{packed_global_declaration}
use Rattle.wgsl_span.specs.View.{span_view}
use Rattle.wgsl_tree_unit.specs.View.{global_declaration_view}
use Rattle.wgsl_tree_packed.proofs.Units.{left_after, declaration_written, void_written}
use Rattle.wgsl_tree_packed.proofs.unit.pack_declarations.Goals as goal

pub declarations-preserved-then-is_void : goal.declarations-preserved-then-is_void
declarations-preserved-then-is_void c =
    let at = c.declarations in
    let o = at.out.items in
    let x = c.in-Some.item in
    let after = into_iter_items c.next.new.self in
    let next : into_iter_items at.item-iterator ≡ x ∷ after = c.in-Some.ensures.steps.0 in
    let empty : is_void (global_declaration_view x.node.value) ≡ true =
    ap (λ d. is_void (global_declaration_view d)) (sym c.node.ensures) ∙ sym c.is_void.ensures
    ∙ c.if-is_void.true in (
      void_written at.rule x after o c.pack_placed.new.out.items _ empty
          (c.in_ok-pack_placed.ensures
          ∙ ap (λ s. o ++ (void_item_rule ∷ packed_span (span_view s))) c.span.ensures)
          (ap (λ xs. o ++ left_after at.rule xs) (sym next) ∙ at.invariant.0),
      omega (arith, at.invariant.1, c.in-Some.ensures.steps.1, ap length next),
    )

pub declarations-preserved : goal.declarations-preserved
declarations-preserved c =
    let at = c.declarations in
    let o = at.out.items in
    let x = c.in-Some.item in
    let after = into_iter_items c.next.new.self in
    let next : into_iter_items at.item-iterator ≡ x ∷ after = c.in-Some.ensures.steps.0 in
    let full : is_void (global_declaration_view x.node.value) ≡ false =
    ap (λ d. is_void (global_declaration_view d)) (sym c.node.ensures) ∙ sym c.is_void.ensures
    ∙ c.if-is_void.false in (
      declaration_written at.rule x after o c.pack_placed-in-declarations.new.out.items
          c.pack.new.out.items _ full (c.in_ok-pack_placed-2.ensures
          ∙ ap (λ s. o ++ (at.rule ∷ packed_span (span_view s))) c.span-in-declarations.ensures)
          (c.in_ok-pack.ensures ∙ ap (λ d. c.pack_placed-in-declarations.new.out.items
          ++ packed_global_declaration (global_declaration_view d)) c.node-in-declarations.ensures)
          (ap (λ xs. o ++ left_after at.rule xs) (sym next) ∙ at.invariant.0),
      omega (arith, at.invariant.1, c.in-Some.ensures.steps.1, ap length next),
    )

pub returns : goal.returns
returns c =
    let at = c.declarations in
    let empty : into_iter_items at.item-iterator ≡ [] =
    nil_from_length _ (sym at.invariant.1 ∙ c.in-None.ensures.steps.0) in
    c.in_ok-pack_rule.ensures ∙ ap (λ xs. at.out.items ++ left_after at.rule xs) (sym empty)
    ∙ at.invariant.0 ∙ ap (λ xs. c.args.out.now.items ++ left_after first_declaration_rule xs)
    c.into_iter-item-iterator.ensures.into_iter_gives.0
