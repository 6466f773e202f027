-- Declarations, directives and units: both forms derive the same.
use Rattle.std.proofs.Common.{◌≡◌, List, [], ◌∷◌, ◌⊎◌, inl, inr, refl, sym, ap, subst, ◌∙◌, append-nil}
use Rattle.grammar.specs.Tokens.{Token, Span, span_between}
use Rattle.grammar.specs.Grammar.{Grammar.symbol, Mode, Means, Part}
use Rattle.grammar.specs.Notation.{◌then◌, ◌gives◌, many}
use Rattle.grammar.proofs.Reading.Depth.{Kept, roll, unroll}
use Rattle.wgsl_model.specs.Trees.Spanned.{Spanned, spanned}
use Rattle.wgsl_model.specs.Trees.Attributes.{Attributes}
use Rattle.wgsl_model.specs.Trees.Attributed.{Attributed, with_attributes}
use Rattle.wgsl_model.specs.Trees.Statements.{ConstAssert}
use Rattle.wgsl_model.specs.Trees.Units.{GlobalDirective, UnattributedDirective, GlobalDeclaration, UnattributedDeclaration}
use Rattle.wgsl_model.specs.Grammar.StatementParts.{leading}
use Rattle.wgsl_model.specs.Grammar.UnitParts.{assert_declaration}
use Rattle.wgsl_model.specs.Grammar.Symbols.{Dialect, Symbol.const_assert, Symbol.global_declaration, Symbol.var_declaration, Symbol.const_declaration, Symbol.override_declaration, Symbol.alias_declaration, Symbol.struct_declaration, Symbol.function_declaration, Symbol.global_directive, Symbol.enable_directive, Symbol.requires_directive, Symbol.diagnostic_directive}
use Rattle.wgsl_model.specs.Grammar.Written.{rules}
use Rattle.wgsl_theory_grammar.specs.Factored.{Further.var_part, Further.override_part, Further.function_part, Further.const_part, Further.alias_part, Further.struct_part, Further.enable_part, Further.requires_part, Further.diagnostic_part, Further.attributed_part, Further.led_part, Further.directive_part, Further.declaration_list, Further.front, FactoredSymbol.of, FactoredSymbol.further, FactoredRule, attributes_before, leading_before, begun_by, declaration_after, declaration_first, directive_first, factored}
use Rattle.wgsl_theory_grammar.specs.MeaningRules.{attributed_rule, led_rule}
use Rattle.wgsl_theory_grammar.proofs.Forms.ListLinks.{many_back, many_front, many_none}
use Rattle.wgsl_theory_grammar.proofs.Forms.Taking.{part_takes}
use Rattle.wgsl_theory_grammar.proofs.Forms.AttributeLinks.{meant_list, leading_from, leading_kept, attributes_kept, either_first, either_second, either_of, ItemsOf, first_item, second_item, no_item, items_in, items_out, read_begun, list_begun, written_begun, attributes_begun}
use Rattle.wgsl_theory_grammar.proofs.Forms.Shifts.{Meant}
use Rattle.wgsl_theory_grammar.proofs.Forms.LevelLinks.{WrittenPart, ReadPart, taking, written_takes, never_empty, body_takes}

-- ---- declarations
attributed_in : (L : Dialect) (M : Mode) (v : Spanned GlobalDeclaration) (n : GlobalDeclaration)
    (h : FactoredRule UnattributedDeclaration) (xs ys : List Token) → spanned n (span_between xs ys) ≡ v
    → Kept (Means M (Part M (factored L)) h) (Part M (factored L) (further attributed_part))
    → Means M (Part M (factored L)) (attributes_before with_attributes h) n xs ys
    → Part M (factored L) (of global_declaration) v xs ys
attributed_in L M v n h xs ys e H d =
    roll M (factored L) (of global_declaration) v xs ys (inr (
      n,
      e,
      either_first L M (Part M (factored L)) with_attributes (symbol (further attributed_part))
          (symbol (further led_part)) n xs ys
          (attributes_kept M (Part M (factored L)) with_attributes h (symbol (further attributed_part)) H n xs ys d),
    ))

led_in : (L : Dialect) (M : Mode) (v : Spanned GlobalDeclaration) (n : GlobalDeclaration)
    (h : FactoredRule UnattributedDeclaration) (xs ys : List Token) → spanned n (span_between xs ys) ≡ v
    → Kept (Means M (Part M (factored L)) h) (Part M (factored L) (further led_part))
    → Means M (Part M (factored L)) (leading_before L with_attributes h) n xs ys
    → Part M (factored L) (of global_declaration) v xs ys
led_in L M v n h xs ys e H d =
    roll M (factored L) (of global_declaration) v xs ys (inr (
      n,
      e,
      either_second L M (Part M (factored L)) with_attributes (symbol (further attributed_part))
          (symbol (further led_part)) n xs ys
          (leading_kept L M (Part M (factored L)) with_attributes h (symbol (further led_part)) H n xs ys d),
    ))

pub declaration_in : (L : Dialect) (M : Mode) (v : Spanned GlobalDeclaration) (xs ys : List Token)
    → Means M (ReadPart L M) (rules L global_declaration) v xs ys
    → Part M (factored L) (of global_declaration) v xs ys
declaration_in L M v xs ys (n, e, inl d) = roll M (factored L) (of global_declaration) v xs ys (inl (n, e, d))
declaration_in L M v xs ys (n, e, inr (inl d)) =
    attributed_in L M v n (symbol (further var_part)) xs ys e
    (λ u us vs s. roll M (factored L) (further attributed_part) u us vs (inl s))
    (unroll M (factored L) (of var_declaration) n xs ys d)
declaration_in L M v xs ys (n, e, inr (inr (inl d))) =
    led_in L M v n (symbol (further const_part)) xs ys e
    (λ u us vs s. roll M (factored L) (further led_part) u us vs (inl s))
    (unroll M (factored L) (of const_declaration) n xs ys d)
declaration_in L M v xs ys (n, e, inr (inr (inr (inl d)))) =
    attributed_in L M v n (symbol (further override_part)) xs ys e
    (λ u us vs s. roll M (factored L) (further attributed_part) u us vs (inr (inl s)))
    (unroll M (factored L) (of override_declaration) n xs ys d)
declaration_in L M v xs ys (n, e, inr (inr (inr (inr (inl d))))) =
    led_in L M v n (symbol (further alias_part)) xs ys e
    (λ u us vs s. roll M (factored L) (further led_part) u us vs (inr (inl s)))
    (unroll M (factored L) (of alias_declaration) n xs ys d)
declaration_in L M v xs ys (n, e, inr (inr (inr (inr (inr (inl d)))))) =
    led_in L M v n (symbol (further struct_part)) xs ys e
    (λ u us vs s. roll M (factored L) (further led_part) u us vs (inr (inr (inl s))))
    (unroll M (factored L) (of struct_declaration) n xs ys d)
declaration_in L M v xs ys (n, e, inr (inr (inr (inr (inr (inr (inl d))))))) =
    attributed_in L M v n (symbol (further function_part)) xs ys e
    (λ u us vs s. roll M (factored L) (further attributed_part) u us vs (inr (inr s)))
    (unroll M (factored L) (of function_declaration) n xs ys d)
declaration_in L M v xs ys (n, e, inr (inr (inr (inr (inr (inr (inr (a, q, (i, f, (ms, d, k)))))))))) =
    let u = unroll M (factored L) (of const_assert) i.0 xs ms d in
    let j : Attributes × UnattributedDeclaration = (u.0.0, UnattributedDeclaration.const_assert u.0.1) in
    let w : ConstAssert × Token = (u.0.1, i.1) in
    let here : Part M (factored L) (further led_part) j.1 u.2.0 ys = roll M (factored L)
    (further led_part) j.1 u.2.0 ys (inr (inr (inr (u.0.1, refl, (w, refl, (ms, u.2.2, k)))))) in
    led_in L M v n (symbol (further led_part)) xs ys e (λ u us vs s. s)
    (j, ap assert_declaration (u.1 ∙ f) ∙ q, (u.2.0, u.2.1, here))

attributed_out : (L : Dialect) (M : Mode) (v : Spanned GlobalDeclaration) (n : GlobalDeclaration)
    (xs ys : List Token) → spanned n (span_between xs ys) ≡ v
    → Means M (Meant L M (WrittenPart L M)) (attributes_before with_attributes
    (symbol (further attributed_part))) n xs ys → Part M (rules L) global_declaration v xs ys
attributed_out L M v n xs ys e (p, q, (ks, a, inl d)) = roll M (rules L) global_declaration v xs ys
    (n, e, inr (inl (roll M (rules L) var_declaration n xs ys (p, q, (ks, a, d)))))
attributed_out L M v n xs ys e (p, q, (ks, a, inr (inl d))) = roll M (rules L) global_declaration v xs ys
    (n, e, inr (inr (inr (inl (roll M (rules L) override_declaration n xs ys (p, q, (ks, a, d)))))))
attributed_out L M v n xs ys e (p, q, (ks, a, inr (inr d))) = roll M (rules L) global_declaration v xs ys
    (n, e, inr (inr (inr (inr (inr (inr (inl (roll M (rules L) function_declaration n xs ys (p, q, (ks, a, d))))))))))

led_out : (L : Dialect) (M : Mode) (v : Spanned GlobalDeclaration) (n : GlobalDeclaration) (xs ys : List Token)
    → spanned n (span_between xs ys) ≡ v
    → Means M (Meant L M (WrittenPart L M)) (leading_before L with_attributes (symbol (further led_part))) n xs ys
    → Part M (rules L) global_declaration v xs ys
led_out L M v n xs ys e (p, q, (ks, l, s)) = go s
  where
    leads : Means M (WrittenPart L M) (leading L) p.0 xs ks
    leads = leading_from L M (WrittenPart L M) (Meant L M (WrittenPart L M)) (meant_list L M) p.0 xs ks l

    go : Means M (WrittenPart L M) led_rule p.1 ks ys → Part M (rules L) global_declaration v xs ys
    go (inl d) = roll M (rules L) global_declaration v xs ys
        (n, e, inr (inr (inl (roll M (rules L) const_declaration n xs ys (p, q, (ks, leads, d))))))
    go (inr (inl d)) = roll M (rules L) global_declaration v xs ys
        (n, e, inr (inr (inr (inr (inl (roll M (rules L) alias_declaration n xs ys (p, q, (ks, leads, d))))))))
    go (inr (inr (inl d))) = roll M (rules L) global_declaration v xs ys
        (n, e, inr (inr (inr (inr (inr (inl (roll M (rules L) struct_declaration n xs ys (p, q, (ks, leads, d)))))))))
    go (inr (inr (inr (a, f, (w, g, (ms, d, k)))))) =
        let i : Attributes × ConstAssert = (p.0, w.0) in
        let j : Attributed ConstAssert × Token = (with_attributes p.0 w.0, w.1) in
        let here : Part M (rules L) const_assert j.0 xs ms = roll M (rules L) const_assert j.0 xs ms
        (i, refl, (ks, leads, d)) in
        roll M (rules L) global_declaration v xs ys (
          n,
          e,
          inr (inr (inr (inr (inr (inr (inr (
            j.0,
            ap (λ (z : ConstAssert). with_attributes p.0 (UnattributedDeclaration.const_assert z)) g
                ∙ (ap (with_attributes p.0) f ∙ q),
            (j, refl, (ms, here, k)),
          ))))))),
        )

pub declaration_out : (L : Dialect) (M : Mode) (v : Spanned GlobalDeclaration) (xs ys : List Token)
    → Means M (Meant L M (WrittenPart L M)) (factored L (of global_declaration)) v xs ys
    → Part M (rules L) global_declaration v xs ys
declaration_out L M v xs ys (inl (n, e, d)) = roll M (rules L) global_declaration v xs ys (n, e, inl d)
declaration_out L M v xs ys (inr (n, e, d)) = go (either_of L M (Meant L M (WrittenPart L M))
    with_attributes (symbol (further attributed_part)) (symbol (further led_part)) n xs ys d)
  where
    go : Means M (Meant L M (WrittenPart L M)) (attributes_before with_attributes
        (symbol (further attributed_part))) n xs ys ⊎ Means M (Meant L M (WrittenPart L M))
        (leading_before L with_attributes (symbol (further led_part))) n xs ys
        → Part M (rules L) global_declaration v xs ys
    go (inl b) = attributed_out L M v n xs ys e b
    go (inr b) = led_out L M v n xs ys e b

-- ---- directives
directive_of_kind : (L : Dialect) (M : Mode) (h : FactoredRule UnattributedDirective)
    → Kept (Means M (Part M (factored L)) h) (Part M (factored L) (further directive_part))
    → (v : GlobalDirective) (xs ys : List Token)
    → Means M (Part M (factored L)) (leading_before L with_attributes h) v xs ys
    → Part M (factored L) (of global_directive) v xs ys
directive_of_kind L M h H v xs ys d = roll M (factored L) (of global_directive) v xs ys
    (leading_kept L M (Part M (factored L)) with_attributes h (symbol (further directive_part)) H v xs ys d)

pub directive_in : (L : Dialect) (M : Mode) (v : GlobalDirective) (xs ys : List Token)
    → Means M (ReadPart L M) (rules L global_directive) v xs ys
    → Part M (factored L) (of global_directive) v xs ys
directive_in L M v xs ys (inl d) =
    directive_of_kind L M (symbol (further enable_part))
    (λ u us vs s. roll M (factored L) (further directive_part) u us vs (inl s)) v xs ys
    (unroll M (factored L) (of enable_directive) v xs ys d)
directive_in L M v xs ys (inr (inl d)) =
    directive_of_kind L M (symbol (further requires_part))
    (λ u us vs s. roll M (factored L) (further directive_part) u us vs (inr (inl s))) v xs ys
    (unroll M (factored L) (of requires_directive) v xs ys d)
directive_in L M v xs ys (inr (inr d)) =
    directive_of_kind L M (symbol (further diagnostic_part))
    (λ u us vs s. roll M (factored L) (further directive_part) u us vs (inr (inr s))) v xs ys
    (unroll M (factored L) (of diagnostic_directive) v xs ys d)

pub directive_out : (L : Dialect) (M : Mode) (v : GlobalDirective) (xs ys : List Token)
    → Means M (Meant L M (WrittenPart L M)) (leading_before L with_attributes
    (symbol (further directive_part))) v xs ys → Part M (rules L) global_directive v xs ys
directive_out L M v xs ys (p, q, (ks, l, s)) = go s
  where
    leads : Means M (WrittenPart L M) (leading L) p.0 xs ks
    leads = leading_from L M (WrittenPart L M) (Meant L M (WrittenPart L M)) (meant_list L M) p.0 xs ks l

    go : Meant L M (WrittenPart L M) (further directive_part) p.1 ks ys → Part M (rules L) global_directive v xs ys
    go (inl d) = roll M (rules L) global_directive v xs ys
        (inl (roll M (rules L) enable_directive v xs ys (p, q, (ks, leads, d))))
    go (inr (inl d)) = roll M (rules L) global_directive v xs ys
        (inr (inl (roll M (rules L) requires_directive v xs ys (p, q, (ks, leads, d)))))
    go (inr (inr d)) = roll M (rules L) global_directive v xs ys
        (inr (inr (roll M (rules L) diagnostic_directive v xs ys (p, q, (ks, leads, d)))))

-- ---- all directives and declarations of a unit
abbrev Declarations : Type 0
Declarations = List (Spanned GlobalDeclaration)

abbrev Front : Type 0
Front = List GlobalDirective × Declarations

abbrev no_directives : Declarations → Front
no_directives ds = ([], ds)

abbrev front_other : FactoredRule (Attributes → Front)
front_other = symbol (further directive_part) then symbol (further front) gives directive_first

front_items : (L : Dialect) (M : Mode) (v : Front) (xs ys : List Token)
    → ItemsOf L M (Part M (factored L)) declaration_first (symbol (further attributed_part))
    (symbol (further led_part)) (symbol (further declaration_list)) front_other v xs ys
    → Part M (factored L) (further front) v xs ys
front_items L M v xs ys d =
    roll M (factored L) (further front) v xs ys
    (inr (inl (items_in L M (Part M (factored L)) declaration_first (symbol (further attributed_part))
    (symbol (further led_part)) (symbol (further declaration_list)) front_other v xs ys d)))

-- a declaration before others
declaration_before : (L : Dialect) (M : Mode) (x : Spanned GlobalDeclaration) (xs ms ys : List Token)
    → ReadPart L M global_declaration x xs ms → (ds : Declarations)
    → Part M (factored L) (further declaration_list) ds ms ys
    → Part M (factored L) (further front) (no_directives (x ∷ ds)) xs ys
declaration_before L M x xs ms ys d ds r = go (unroll M (factored L) (of global_declaration) x xs ms d)
  where
    made : Attributes × UnattributedDeclaration → GlobalDeclaration
    made p = with_attributes p.0 p.1

    placed : (p : Attributes × UnattributedDeclaration) (n : GlobalDeclaration) (ks : List Token)
        → begun_by p.0 (span_between ks ms) ≡ span_between xs ms → made p ≡ n
        → spanned n (span_between xs ms) ≡ x
        → Part M (factored L) (further front) (declaration_first ((p.1, span_between ks ms), ds) p.0) xs ys
        → Part M (factored L) (further front) (no_directives (x ∷ ds)) xs ys
    placed p n ks b q e h =
        subst (λ (z : Spanned GlobalDeclaration). Part M (factored L) (further front) (no_directives (z ∷ ds)) xs ys)
        (ap (λ (z : Span). spanned (made p) z) b
        ∙ (ap (λ (z : GlobalDeclaration). spanned z (span_between xs ms)) q ∙ e)) h

    following : (n : GlobalDeclaration) → spanned n (span_between xs ms) ≡ x
        → Means M (Part M (factored L)) (attributes_before with_attributes (symbol (further attributed_part))) n xs ms
        ⊎ Means M (Part M (factored L)) (leading_before L with_attributes (symbol (further led_part))) n xs ms
        → Part M (factored L) (further front) (no_directives (x ∷ ds)) xs ys
    following n e (inl (p, q, (ks, l, s))) =
        let w = part_takes M (factored L) never_empty (body_takes L)
        (symbol (further attributed_part)) refl p.1 ks ms s in
        placed p n ks (list_begun L M p.0 xs ks ms l w) q e
        (front_items L M (declaration_first ((p.1, span_between ks ms), ds) p.0) xs ys
        (first_item p.0 p.1 ds xs ks ms ys l s r))
    following n e (inr (p, q, (ks, l, s))) =
        let w = part_takes M (factored L) never_empty (body_takes L) (symbol (further led_part)) refl p.1 ks ms s in
        placed p n ks (read_begun L M p.0 xs ks ms l w) q e
        (front_items L M (declaration_first ((p.1, span_between ks ms), ds) p.0) xs ys
        (second_item p.0 p.1 ds xs ks ms ys l s r))

    go : Means M (Part M (factored L)) (factored L (of global_declaration)) x xs ms
        → Part M (factored L) (further front) (no_directives (x ∷ ds)) xs ys
    go (inl s) =
        let i : Spanned GlobalDeclaration × Declarations = (x, ds) in roll M (factored L)
        (further front) (no_directives (x ∷ ds)) xs ys (inl (i, refl, (ms, s, r)))
    go (inr (n, e, s)) = following n e (either_of L M (Part M (factored L)) with_attributes
        (symbol (further attributed_part)) (symbol (further led_part)) n xs ms s)

-- declarations alone, and as all that is left of a unit
abbrev Left : Dialect → Mode → List Token → Declarations → List Token → Type 0
Left L M ys ds us = Part M (factored L) (further declaration_list) ds us ys
    × Part M (factored L) (further front) (no_directives ds) us ys

declarations_in : (L : Dialect) (M : Mode) (ds : Declarations) (xs ys : List Token)
    → Means M (ReadPart L M) (many (symbol global_declaration)) ds xs ys → Left L M ys ds xs
declarations_in L M ds xs ys d =
    subst (λ (z : Declarations). Left L M ys z xs) (append-nil ds)
    (many_back M (ReadPart L M) (symbol global_declaration) (Left L M ys) step xs ds ys d [] last)
  where
    step : (x : Spanned GlobalDeclaration) (us ms : List Token) → ReadPart L M global_declaration x us ms
        → (tl : Declarations) → Left L M ys tl ms → Left L M ys (x ∷ tl) us
    step x us ms d tl (r, f) = (
      roll M (factored L) (further declaration_list) (x ∷ tl) us ys
          (many_front M (Part M (factored L)) (symbol (of global_declaration)) x us ms d tl ys
          (unroll M (factored L) (further declaration_list) tl ms ys r)),
      declaration_before L M x us ms ys d tl r,
    )

    last : Left L M ys [] ys
    last = (
      roll M (factored L) (further declaration_list) [] ys ys
          (many_none M (Part M (factored L)) (symbol (of global_declaration)) ys),
      roll M (factored L) (further front) (no_directives []) ys ys (inr (inr (refl, refl))),
    )

pub front_in : (L : Dialect) (M : Mode) (v : Front) (xs ys : List Token)
    → Meant L M (ReadPart L M) (further front) v xs ys → Part M (factored L) (further front) v xs ys
front_in L M v xs ys (ms, d, h) =
    subst (λ (z : List GlobalDirective). Part M (factored L) (further front) (z, v.1) xs ys)
    (append-nil v.0)
    (many_back M (ReadPart L M) (symbol global_directive) (λ tl us. Part M (factored L)
    (further front) (tl, v.1) us ys) step xs v.0 ms d [] (declarations_in L M v.1 ms ys h).1)
  where
    step : (x : GlobalDirective) (us ms : List Token) → ReadPart L M global_directive x us ms
        → (tl : List GlobalDirective) → Part M (factored L) (further front) (tl, v.1) ms ys
        → Part M (factored L) (further front) (x ∷ tl, v.1) us ys
    step x us ms d tl r =
        let u = unroll M (factored L) (of global_directive) x us ms d in
        let i : UnattributedDirective × Front = (u.0.1, (tl, v.1)) in
        subst (λ (z : GlobalDirective). Part M (factored L) (further front) (z ∷ tl, v.1) us ys) u.1
        (front_items L M (directive_first i u.0.0) us ys
        (no_item u.0.0 (directive_first i) us u.2.0 ys u.2.1 (i, refl, (ms, u.2.2, r))))

-- and back
declaration_front : (L : Dialect) (M : Mode) (x : Spanned GlobalDeclaration) (xs ms ys : List Token)
    → WrittenPart L M global_declaration x xs ms → (ds : Declarations)
    → Meant L M (WrittenPart L M) (further declaration_list) ds ms ys
    → Meant L M (WrittenPart L M) (further front) (no_directives (x ∷ ds)) xs ys
declaration_front L M x xs ms ys d ds r = (
  xs,
  many_none M (WrittenPart L M) (symbol global_directive) xs,
  many_front M (WrittenPart L M) (symbol global_declaration) x xs ms d ds ys r,
)

pub front_out : (L : Dialect) (M : Mode) (v : Front) (xs ys : List Token)
    → Means M (Meant L M (WrittenPart L M)) (factored L (further front)) v xs ys
    → Meant L M (WrittenPart L M) (further front) v xs ys
front_out L M v xs ys (inl (p, e, (ms, d, r))) =
    subst (λ (z : Front). Meant L M (WrittenPart L M) (further front) z xs ys) e
    (declaration_front L M p.0 xs ms ys (declaration_out L M p.0 xs ms (inl d)) p.1 r)
front_out L M v xs ys (inr (inr (e, w))) =
    let none : Meant L M (WrittenPart L M) (further front) (no_directives []) xs xs = (
      xs,
      many_none M (WrittenPart L M) (symbol global_directive) xs,
      many_none M (WrittenPart L M) (symbol global_declaration) xs,
    ) in
    subst (λ (z : Front). Meant L M (WrittenPart L M) (further front) z xs ys) e
    (subst (λ (z : List Token). Meant L M (WrittenPart L M) (further front) (no_directives []) xs z) w none)
front_out L M v xs ys (inr (inl d)) = go v xs ys
    (items_out L M (Meant L M (WrittenPart L M)) declaration_first (symbol (further attributed_part))
    (symbol (further led_part)) (symbol (further declaration_list)) front_other v xs ys d)
  where
    go : (v : Front) (xs ys : List Token)
        → ItemsOf L M (Meant L M (WrittenPart L M)) declaration_first (symbol (further attributed_part))
        (symbol (further led_part)) (symbol (further declaration_list)) front_other v xs ys
        → Meant L M (WrittenPart L M) (further front) v xs ys
    go _ _ _ (first_item a u r xs ks ms ys l s h) =
        let w = part_takes M (rules L) taking (written_takes L) attributed_rule refl u ks ms s in
        let i : Attributes × UnattributedDeclaration = (a, u) in
        declaration_front L M (declaration_after a (u, span_between ks ms)) xs ms ys
        (attributed_out L M (declaration_after a (u, span_between ks ms))
        (with_attributes a u) xs ms (ap (λ (z : Span). spanned (with_attributes a u) z)
        (sym (attributes_begun L M a xs ks ms l w))) (i, refl, (ks, l, s))) r h
    go _ _ _ (second_item a u r xs ks ms ys l s h) =
        let w = part_takes M (rules L) taking (written_takes L) led_rule refl u ks ms s in
        let i : Attributes × UnattributedDeclaration = (a, u) in
        declaration_front L M (declaration_after a (u, span_between ks ms)) xs ms ys
        (led_out L M (declaration_after a (u, span_between ks ms)) (with_attributes a u) xs ms
        (ap (λ (z : Span). spanned (with_attributes a u) z) (sym (written_begun L M a xs ks ms l w)))
        (i, refl, (ks, l, s))) r h
    go _ _ _ (no_item a f xs ks ys l (p, q, (ms, s, (ws, d, h)))) =
        let i : Attributes × UnattributedDirective = (a, p.0) in
        let here : WrittenPart L M global_directive (with_attributes a p.0) xs ms =
        directive_out L M (with_attributes a p.0) xs ms (i, refl, (ks, l, s)) in
        let there : Meant L M (WrittenPart L M) (further front) (directive_first p a) xs ys = (
          ws,
          many_front M (WrittenPart L M) (symbol global_directive)
              (with_attributes a p.0) xs ms here p.1.0 ws d,
          h,
        ) in
        subst (λ (z : Front). Meant L M (WrittenPart L M) (further front) z xs ys)
        (ap (λ (z : Attributes → Front). z a) q) there
