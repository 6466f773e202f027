-- A renaming that is undone gives each node back, so it changes names alone.
use Rattle.std.proofs.Common.{◌≡◌, ℕ, List, [], ◌∷◌, map, Option, Some, None, IfSome, refl}
use Rattle.std.specs.List.{Contains}
use Rattle.std.specs.Option.{option_map}
use Rattle.wgsl_model.specs.Trees.Spanned.{Spanned}
use Rattle.wgsl_model.specs.Trees.Expressions.{expression_node, literal, parenthesized, named_component, indexing, unary, binary, function_call, type_or_identifier, call, type_expression, no_expressions, expression_before, no_template, template}
use Rattle.wgsl_model.specs.Trees.Attributes as attribute
use Rattle.wgsl_model.specs.Trees.Statements as tree
use Rattle.wgsl_model.specs.Trees.Units as unit
use Rattle.wgsl_model_names.specs.Scopes.{Names, used, Branch, spelled}
use Rattle.wgsl_model_names.specs.Names.{maybe, each, names_in_expression, names_in_all, names_in_template, node_names, call_names, type_names, attribute_names, spanned_attribute_names, attributes_names, branch_under, declared_in, value_names, selector_names, break_if_names, name_declared, statement_names, statement_node_names, unattributed_names, compound_names, if_names, if_clause_names, else_if_clause_names, else_clause_names, switch_names, switch_clause_names, loop_names, continuing_names, for_names, while_names, statements_names, part_names, else_ifs_names, else_names, clauses_names, maybe_continuing_names, member_names, parameter_names, parameter_declared, function_names, content_names, global_name, global_names, global_declared, directive_names, unit_names}
use Rattle.wgsl_model_names.specs.Renamed.{Renaming, renamed_expression, renamed_node, renamed_expressions, renamed_call, renamed_type, renamed_template, renamed_attribute, renamed_spanned, renamed_attributes, renamed_attributed, renamed_declaration, renamed_break_if, renamed_selector, renaming, renamed_member, renamed_parameter, renamed_function, renamed_unattributed, renamed_global, renamed_directive, renamed_unit}
use Rattle.wgsl_theory_names.proofs.RenamedScopes.{EachName}
use Rattle.wgsl_theory_names.proofs.Kept.{each_spelled}

module _ (f g : Renaming) where
  -- g undoes f at a name, at one that there may be, and at each name
  abbrev Back : List ℕ → Type 0
  Back x = g (f x) ≡ x

  abbrev MaybeBack : Option (List ℕ) → Type 0
  MaybeBack name = IfSome name Back

  abbrev IsUndone : Names → Type 0
  IsUndone names = EachName Back names

  -- a node is as it was, where g undoes f
  abbrev Undone : {A : Type 0} → (A → Names) → (Renaming → A → A) → Type 0
  Undone {A} names renamed = (a : A) → IsUndone (names a) → renamed g (renamed f a) ≡ a

  maybe_undone : {A : Type 0} (names : A → Names) (renamed : Renaming → A → A) → Undone names renamed
      → Undone (maybe names) (λ h. option_map (renamed h))
  maybe_undone {A} names renamed undone None h = refl
  maybe_undone {A} names renamed undone (Some a) h = λ i. Some (undone a h i)

  each_undone : {A : Type 0} (names : A → Names) (renamed : Renaming → A → A) → Undone names renamed
      → Undone (each names) (λ h. map (renamed h))
  each_undone names renamed undone [] h = refl
  each_undone names renamed undone (a ∷ more) h = λ i. undone a h.0 i ∷ each_undone names renamed undone more h.1 i

  -- ---- expressions and types
  mutual
    expression_undone : Undone (names_in_expression used) renamed_expression
    expression_undone (literal l) h = refl
    expression_undone (parenthesized e) h = λ i. parenthesized (node_undone e h i)
    expression_undone (named_component base component) h = λ i. named_component (node_undone base h i) component
    expression_undone (indexing base index) h = λ i. indexing (node_undone base h.0 i) (node_undone index h.1 i)
    expression_undone (unary operator operand) h = λ i. unary operator (node_undone operand h i)
    expression_undone (binary operator left right) h =
        λ i. binary operator (node_undone left h.0 i) (node_undone right h.1 i)
    expression_undone (function_call c) h = λ i. function_call (call_undone c h i)
    expression_undone (type_or_identifier t) h = λ i. type_or_identifier (type_undone t h i)

    node_undone : Undone node_names renamed_node
    node_undone (expression_node e span) h = λ i. expression_node (expression_undone e h i) span

    expressions_undone : Undone (names_in_all used) renamed_expressions
    expressions_undone no_expressions h = refl
    expressions_undone (expression_before e es) h =
        λ i. expression_before (node_undone e h.0 i) (expressions_undone es h.1 i)

    call_undone : Undone call_names renamed_call
    call_undone (call ty arguments) h = λ i. call (type_undone ty h.0 i) (expressions_undone arguments h.1 i)

    type_undone : Undone type_names renamed_type
    type_undone (type_expression name arguments) h = λ i. type_expression (h.0 i) (template_undone arguments h.1 i)

    template_undone : Undone (names_in_template used) renamed_template
    template_undone no_template h = refl
    template_undone (template arguments) h = λ i. template (expressions_undone arguments h i)

  maybe_node_undone : Undone (maybe node_names) (λ h. option_map (renamed_node h))
  maybe_node_undone = maybe_undone node_names renamed_node node_undone

  maybe_type_undone : Undone (maybe type_names) (λ h. option_map (renamed_type h))
  maybe_type_undone = maybe_undone type_names renamed_type type_undone

  -- ---- attributes
  attribute_undone : Undone attribute_names renamed_attribute
  attribute_undone (attribute.with_argument attribute.align e) h =
      λ i. attribute.with_argument attribute.align (node_undone e h i)
  attribute_undone (attribute.with_argument attribute.binding e) h =
      λ i. attribute.with_argument attribute.binding (node_undone e h i)
  attribute_undone (attribute.with_argument attribute.blend_src e) h =
      λ i. attribute.with_argument attribute.blend_src (node_undone e h i)
  attribute_undone (attribute.with_argument attribute.group e) h =
      λ i. attribute.with_argument attribute.group (node_undone e h i)
  attribute_undone (attribute.with_argument attribute.id e) h =
      λ i. attribute.with_argument attribute.id (node_undone e h i)
  attribute_undone (attribute.with_argument attribute.location e) h =
      λ i. attribute.with_argument attribute.location (node_undone e h i)
  attribute_undone (attribute.with_argument attribute.size e) h =
      λ i. attribute.with_argument attribute.size (node_undone e h i)
  attribute_undone (attribute.with_argument attribute.if_attribute e) h = refl
  attribute_undone (attribute.with_argument attribute.elif_attribute e) h = refl
  attribute_undone (attribute.without_argument name) h = refl
  attribute_undone (attribute.builtin value) h = refl
  attribute_undone (attribute.diagnostic d) h = refl
  attribute_undone (attribute.interpolate j) h = refl
  attribute_undone (attribute.workgroup_size w) h = λ i. attribute.workgroup_size (record {
    x = node_undone w.x h.0 i;
    y = maybe_node_undone w.y h.1.0 i;
    z = maybe_node_undone w.z h.1.1 i;
  })
  attribute_undone (attribute.type_constraint t) h = λ i. attribute.type_constraint
      (record { ident = h.0 i; variants = each_undone type_names renamed_type type_undone t.variants h.1 i })
  attribute_undone (attribute.custom c) h = refl

  attributes_undone : Undone attributes_names renamed_attributes
  attributes_undone = each_undone spanned_attribute_names (λ h. renamed_spanned (renamed_attribute h))
      (λ a h. λ i. record { node = attribute_undone a.node h i; span = a.span })

  -- ---- statements
  selector_undone : Undone selector_names renamed_selector
  selector_undone tree.default_selector h = refl
  selector_undone (tree.expression_selector e) h = λ i. tree.expression_selector (node_undone e h i)

  break_if_undone : Undone break_if_names (λ h. renamed_attributed h (renamed_break_if h))
  break_if_undone b h = λ i. record {
    attributes = attributes_undone b.attributes h.0 i;
    node = record { expression = node_undone b.node.expression h.1 i };
  }

  -- a name that is declared under a condition, or always
  declared_undone : (branch : Option Branch) (name : Option (List ℕ)) → IsUndone (declared_in branch name)
      → MaybeBack name
  declared_undone None None h = tt
  declared_undone None (Some x) h = h
  declared_undone (Some branch) name h = h

  value_undone : (d : tree.Declaration) → IsUndone (value_names d) → Back d.ident
      → renamed_declaration g (renamed_declaration f d) ≡ d
  value_undone d h same = λ i. record {
    kind = d.kind;
    ident = same i;
    ty = maybe_type_undone d.ty h.1.0 i;
    initializer = maybe_node_undone d.initializer h.1.1 i;
  }

  mutual
    statement_undone : Undone statement_names (λ h. tree.changed_statement (renaming h))
    statement_undone (tree.statement attributes s) h =
        λ i. tree.statement (attributes_undone attributes h.0 i)
        (unattributed_undone s h.1.0 (declared_undone (branch_under attributes) (name_declared s) h.1.1) i)

    statement_node_undone : Undone statement_node_names (λ h. tree.changed_node (renaming h))
    statement_node_undone (tree.statement_node s span) h = λ i. tree.statement_node (statement_undone s h i) span

    unattributed_undone : (s : tree.UnattributedStatement) → IsUndone (unattributed_names s)
        → MaybeBack (name_declared s)
        → tree.changed_unattributed (renaming g) (tree.changed_unattributed (renaming f) s) ≡ s
    unattributed_undone (tree.compound ss) h same = λ i. tree.compound (statements_undone ss h i)
    unattributed_undone (tree.assignment a) h same = λ i. tree.assignment
        (record { operator = a.operator; lhs = node_undone a.lhs h.0 i; rhs = node_undone a.rhs h.1 i })
    unattributed_undone (tree.increment s) h same =
        λ i. tree.increment (record { expression = node_undone s.expression h i })
    unattributed_undone (tree.decrement s) h same =
        λ i. tree.decrement (record { expression = node_undone s.expression h i })
    unattributed_undone (tree.if_statement s) h same = λ i. tree.if_statement (if_undone s h i)
    unattributed_undone (tree.switch_statement s) h same = λ i. tree.switch_statement (switch_undone s h i)
    unattributed_undone (tree.loop_statement s) h same = λ i. tree.loop_statement (loop_undone s h i)
    unattributed_undone (tree.for_statement s) h same = λ i. tree.for_statement (for_undone s h i)
    unattributed_undone (tree.while_statement s) h same = λ i. tree.while_statement (while_undone s h i)
    unattributed_undone (tree.return_statement s) h same =
        λ i. tree.return_statement (record { expression = maybe_node_undone s.expression h i })
    unattributed_undone (tree.function_call_statement s) h same =
        λ i. tree.function_call_statement (record { call = call_undone s.call h i })
    unattributed_undone (tree.const_assert c) h same =
        λ i. tree.const_assert (record { expression = node_undone c.expression h i })
    unattributed_undone (tree.declaration d) h same = λ i. tree.declaration (value_undone d h same i)
    unattributed_undone tree.void h same = refl
    unattributed_undone tree.break_statement h same = refl
    unattributed_undone tree.continue_statement h same = refl
    unattributed_undone tree.discard_statement h same = refl

    compound_undone : Undone compound_names (λ h. tree.changed_compound (renaming h))
    compound_undone (tree.compound_statement attributes ss) h =
        λ i. tree.compound_statement (attributes_undone attributes h.0 i) (statements_undone ss h.1 i)

    if_undone : Undone if_names (λ h. tree.changed_if (renaming h))
    if_undone (tree.if_else clause others last) h = λ i. tree.if_else (if_clause_undone clause h.0 i)
        (else_ifs_undone others h.1.0 i) (else_undone last h.1.1 i)

    if_clause_undone : Undone if_clause_names (λ h. tree.changed_if_clause (renaming h))
    if_clause_undone (tree.if_clause condition body) h =
        λ i. tree.if_clause (node_undone condition h.0 i) (compound_undone body h.1 i)

    else_if_clause_undone : Undone else_if_clause_names (λ h. tree.changed_else_if_clause (renaming h))
    else_if_clause_undone (tree.else_if_clause attributes condition body) h =
        λ i. tree.else_if_clause (attributes_undone attributes h.0 i)
        (node_undone condition h.1.0 i) (compound_undone body h.1.1 i)

    else_clause_undone : Undone else_clause_names (λ h. tree.changed_else_clause (renaming h))
    else_clause_undone (tree.else_clause attributes body) h =
        λ i. tree.else_clause (attributes_undone attributes h.0 i) (compound_undone body h.1 i)

    switch_undone : Undone switch_names (λ h. tree.changed_switch (renaming h))
    switch_undone (tree.switch e attributes clauses) h = λ i. tree.switch (node_undone e h.0 i)
        (attributes_undone attributes h.1.0 i) (clauses_undone clauses h.1.1 i)

    switch_clause_undone : Undone switch_clause_names (λ h. tree.changed_switch_clause (renaming h))
    switch_clause_undone (tree.switch_clause attributes selectors body) h =
        λ i. tree.switch_clause (attributes_undone attributes h.0 i)
        (each_undone selector_names renamed_selector selector_undone selectors h.1.0 i) (compound_undone body h.1.1 i)

    loop_undone : Undone loop_names (λ h. tree.changed_loop (renaming h))
    loop_undone (tree.repeat (tree.compound_statement attributes ss) last) h = λ i. tree.repeat
        (tree.compound_statement (attributes_undone attributes h.0 i) (statements_undone ss h.1.0 i))
        (maybe_continuing_undone last h.1.1 i)

    continuing_undone : Undone continuing_names (λ h. tree.changed_continuing (renaming h))
    continuing_undone (tree.continuing attributes (tree.compound_statement block_attributes ss) break_if) h =
        λ i. tree.continuing (attributes_undone attributes h.0 i)
        (tree.compound_statement (attributes_undone block_attributes h.1.0 i) (statements_undone ss h.1.1.0 i))
        (maybe_undone break_if_names (λ k. renamed_attributed k (renamed_break_if k)) break_if_undone
        break_if h.1.1.1 i)

    for_undone : Undone for_names (λ h. tree.changed_for (renaming h))
    for_undone (tree.repeat_for initializer condition update body) h =
        λ i. tree.repeat_for (part_undone initializer h.0 i) (maybe_node_undone condition h.1.0 i)
        (part_undone update h.1.1.0 i) (compound_undone body h.1.1.1 i)

    while_undone : Undone while_names (λ h. tree.changed_while (renaming h))
    while_undone (tree.repeat_while condition body) h =
        λ i. tree.repeat_while (node_undone condition h.0 i) (compound_undone body h.1 i)

    statements_undone : Undone statements_names (λ h. tree.changed_statements (renaming h))
    statements_undone tree.no_statements h = refl
    statements_undone (tree.statement_before s ss) h =
        λ i. tree.statement_before (statement_node_undone s h.0 i) (statements_undone ss h.1 i)

    part_undone : Undone part_names (λ h. tree.changed_part (renaming h))
    part_undone tree.no_statement h = refl
    part_undone (tree.one_statement s) h = λ i. tree.one_statement (statement_node_undone s h i)

    else_ifs_undone : Undone else_ifs_names (λ h. tree.changed_else_ifs (renaming h))
    else_ifs_undone tree.no_else_ifs h = refl
    else_ifs_undone (tree.else_if_before c cs) h =
        λ i. tree.else_if_before (else_if_clause_undone c h.0 i) (else_ifs_undone cs h.1 i)

    else_undone : Undone else_names (λ h. tree.changed_else (renaming h))
    else_undone tree.no_else h = refl
    else_undone (tree.one_else c) h = λ i. tree.one_else (else_clause_undone c h i)

    clauses_undone : Undone clauses_names (λ h. tree.changed_clauses (renaming h))
    clauses_undone tree.no_clauses h = refl
    clauses_undone (tree.clause_before c cs) h =
        λ i. tree.clause_before (switch_clause_undone c h.0 i) (clauses_undone cs h.1 i)

    maybe_continuing_undone : Undone maybe_continuing_names (λ h. tree.changed_maybe_continuing (renaming h))
    maybe_continuing_undone tree.no_continuing h = refl
    maybe_continuing_undone (tree.one_continuing c) h = λ i. tree.one_continuing (continuing_undone c h i)

  -- ---- modules
  member_undone : Undone member_names (λ h. renamed_spanned (renamed_member h))
  member_undone m h = λ i. record {
    node = record {
      attributes = attributes_undone m.node.attributes h.0 i;
      ident = m.node.ident;
      ty = type_undone m.node.ty h.1 i;
    };
    span = m.span;
  }

  -- parameters, by their types and by their names
  parameters_undone : (ps : List unit.FormalParameter) → IsUndone (each parameter_names ps)
      → IsUndone (each parameter_declared ps) → map (renamed_parameter g) (map (renamed_parameter f) ps) ≡ ps
  parameters_undone [] h k = refl
  parameters_undone (p ∷ ps) h k = λ i. record {
    attributes = attributes_undone p.attributes h.0.0 i;
    ident = declared_undone (branch_under p.attributes) (Some p.ident) k.0 i;
    ty = type_undone p.ty h.0.1 i;
  } ∷ parameters_undone ps h.1 k.1 i

  function_undone : (x : unit.Function) → IsUndone (function_names x) → Back x.ident
      → renamed_function g (renamed_function f x) ≡ x
  function_undone x h same = λ i. record {
    ident = same i;
    parameters = parameters_undone x.parameters h.0 h.1.1.1.0 i;
    return_attributes = attributes_undone x.return_attributes h.1.0 i;
    return_type = maybe_type_undone x.return_type h.1.1.0 i;
    body = compound_undone x.body h.1.1.1.1 i;
  }

  -- a declaration, by its content and by the name that it declares
  content_undone : (d : unit.UnattributedDeclaration) → IsUndone (content_names d) → MaybeBack (global_name d)
      → renamed_unattributed g (renamed_unattributed f d) ≡ d
  content_undone unit.void h same = refl
  content_undone (unit.declaration d) h same = λ i. unit.declaration (value_undone d h same i)
  content_undone (unit.type_alias a) h same =
      λ i. unit.type_alias (record { ident = same i; ty = type_undone a.ty h i })
  content_undone (unit.structure s) h same = λ i. unit.structure (record {
    ident = same i;
    members = each_undone member_names (λ k. renamed_spanned (renamed_member k)) member_undone s.members h i;
  })
  content_undone (unit.function x) h same = λ i. unit.function (function_undone x h same i)
  content_undone (unit.const_assert c) h same =
      λ i. unit.const_assert (record { expression = node_undone c.expression h i })

  globals_undone : (ds : List (Spanned unit.GlobalDeclaration)) → IsUndone (each global_names ds)
      → IsUndone (each global_declared ds)
      → map (renamed_spanned (renamed_global g)) (map (renamed_spanned (renamed_global f)) ds) ≡ ds
  globals_undone [] h k = refl
  globals_undone (d ∷ ds) h k = λ i. record {
    node = record {
      attributes = attributes_undone d.node.attributes h.0.0 i;
      node = content_undone d.node.node h.0.1
          (declared_undone (branch_under d.node.attributes) (global_name d.node.node) k.0) i;
    };
    span = d.span;
  } ∷ globals_undone ds h.1 k.1 i

  directives_undone : Undone (each directive_names) (λ h. map (renamed_directive h))
  directives_undone = each_undone directive_names renamed_directive
      (λ d h. λ i. record { attributes = attributes_undone d.attributes h i; node = d.node })

  pub unit_undone : (u : unit.TranslationUnit)
      → ((x : List ℕ) → Contains (spelled (unit_names u)) x → g (f x) ≡ x)
      → renamed_unit g (renamed_unit f u) ≡ u
  unit_undone u undoes =
      let h = each_spelled Back (unit_names u) undoes in
      λ i. record {
        global_directives = directives_undone u.global_directives h.1.0 i;
        global_declarations = globals_undone u.global_declarations h.1.1 h.0 i;
      }
