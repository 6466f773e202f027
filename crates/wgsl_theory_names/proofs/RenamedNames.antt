-- The names of each renamed node are those of the node, renamed.
use Rattle.std.proofs.Common.{◌≡◌, ℕ, List, [], ◌∷◌, map, Option, Some, None, refl, sym, ap, ◌∙◌}
use Rattle.std.specs.Option.{option_map}
use Rattle.wgsl_model.specs.Trees.NamedValues.{AccessMode}
use Rattle.wgsl_model.specs.Trees.Expressions.{expression_node, literal, parenthesized, named_component, indexing, unary, binary, function_call, type_or_identifier, call, type_expression, no_expressions, expression_before, no_template, template}
use Rattle.wgsl_model.specs.Trees.Attributes as attribute
use Rattle.wgsl_model.specs.Trees.Statements as tree
use Rattle.wgsl_model.specs.Trees.Units as unit
use Rattle.wgsl_model_names.specs.Scopes.{Names, used, unknown, ◌then◌, scope, Branch}
use Rattle.wgsl_model_names.specs.Names.{maybe, each, names_in_expression, names_in, names_in_all, names_in_call, names_in_type, names_in_template, node_names, call_names, type_names, attribute_names, attributes_names, branch_of, both_branches, branch_under, declared_in, declared_under, kind_names, value_names, selector_names, break_if_names, name_declared, statement_names, statement_node_names, unattributed_names, compound_names, if_names, if_clause_names, else_if_clause_names, else_clause_names, switch_names, switch_clause_names, loop_names, continuing_names, for_names, while_names, statements_names, part_names, else_ifs_names, else_names, clauses_names, maybe_continuing_names, member_names, parameter_names, function_names, spanned_attribute_names, mode_names, parameter_declared, content_names, global_names, global_name, global_declared, directive_names, unit_names}
use Rattle.wgsl_model_names.specs.Renamed.{Renaming, renamed_expression, renamed_node, renamed_expressions, renamed_call, renamed_type, renamed_template, renamed_attribute, renamed_attributes, renamed_attributed, renamed_declaration, renamed_selector, renamed_break_if, renaming, renamed_member, renamed_parameter, renamed_function, renamed_unattributed, renamed_global, renamed_spanned, renamed_directive, renamed_unit}
use Rattle.wgsl_model_names.specs.Renaming.{FixesWords}
use Rattle.wgsl_theory_names.proofs.RenamedScopes.{renamed_names}

module _ (f : Renaming) where
  -- the names of a node, renamed before or after they are taken
  abbrev Commutes : {A : Type 0} → (A → Names) → (A → A) → Type 0
  Commutes {A} names renamed = (x : A) → names (renamed x) ≡ renamed_names f (names x)

  maybe_renamed : {A : Type 0} (names : A → Names) (renamed : A → A) → Commutes names renamed
      → Commutes (maybe names) (option_map renamed)
  maybe_renamed names renamed commutes None = refl
  maybe_renamed names renamed commutes (Some x) = commutes x

  each_renamed : {A : Type 0} (names : A → Names) (renamed : A → A) → Commutes names renamed
      → Commutes (each names) (map renamed)
  each_renamed names renamed commutes [] = refl
  each_renamed names renamed commutes (x ∷ xs) = λ i. commutes x i then each_renamed names renamed commutes xs i

  -- ---- expressions and types
  mutual
    expression_renamed : Commutes (names_in_expression used) (renamed_expression f)
    expression_renamed (literal l) = refl
    expression_renamed (parenthesized e) = node_renamed e
    expression_renamed (named_component base component) = node_renamed base
    expression_renamed (indexing base index) = λ i. node_renamed base i then node_renamed index i
    expression_renamed (unary operator operand) = node_renamed operand
    expression_renamed (binary operator left right) = λ i. node_renamed left i then node_renamed right i
    expression_renamed (function_call c) = call_renamed c
    expression_renamed (type_or_identifier t) = type_renamed t

    node_renamed : Commutes node_names (renamed_node f)
    node_renamed (expression_node e span) = expression_renamed e

    expressions_renamed : Commutes (names_in_all used) (renamed_expressions f)
    expressions_renamed no_expressions = refl
    expressions_renamed (expression_before e es) = λ i. node_renamed e i then expressions_renamed es i

    call_renamed : Commutes call_names (renamed_call f)
    call_renamed (call ty arguments) = λ i. type_renamed ty i then expressions_renamed arguments i

    type_renamed : Commutes type_names (renamed_type f)
    type_renamed (type_expression name arguments) = λ i. used (f name) then template_renamed arguments i

    template_renamed : Commutes (names_in_template used) (renamed_template f)
    template_renamed no_template = refl
    template_renamed (template arguments) = expressions_renamed arguments

  maybe_node_renamed : Commutes (maybe node_names) (option_map (renamed_node f))
  maybe_node_renamed = maybe_renamed node_names (renamed_node f) node_renamed

  maybe_type_renamed : Commutes (maybe type_names) (option_map (renamed_type f))
  maybe_type_renamed = maybe_renamed type_names (renamed_type f) type_renamed

  -- ---- names of which it is not known what they refer to
  -- the names of a node are the same, renamed
  abbrev Stays : {A : Type 0} → (A → Names) → Type 0
  Stays {A} names = Commutes names (λ x. x)

  maybe_stays : {A : Type 0} (names : A → Names) → Stays names → Stays (maybe names)
  maybe_stays names stays None = refl
  maybe_stays names stays (Some x) = stays x

  each_stays : {A : Type 0} (names : A → Names) → Stays names → Stays (each names)
  each_stays names stays [] = refl
  each_stays names stays (x ∷ xs) = λ i. stays x i then each_stays names stays xs i

  mutual
    expression_stays : Stays (names_in_expression unknown)
    expression_stays (literal l) = refl
    expression_stays (parenthesized e) = node_stays e
    expression_stays (named_component base component) = node_stays base
    expression_stays (indexing base index) = λ i. node_stays base i then node_stays index i
    expression_stays (unary operator operand) = node_stays operand
    expression_stays (binary operator left right) = λ i. node_stays left i then node_stays right i
    expression_stays (function_call c) = call_stays c
    expression_stays (type_or_identifier t) = type_stays t

    node_stays : Stays (names_in unknown)
    node_stays (expression_node e span) = expression_stays e

    expressions_stay : Stays (names_in_all unknown)
    expressions_stay no_expressions = refl
    expressions_stay (expression_before e es) = λ i. node_stays e i then expressions_stay es i

    call_stays : Stays (names_in_call unknown)
    call_stays (call ty arguments) = λ i. type_stays ty i then expressions_stay arguments i

    type_stays : Stays (names_in_type unknown)
    type_stays (type_expression name arguments) = λ i. unknown name then template_stays arguments i

    template_stays : Stays (names_in_template unknown)
    template_stays no_template = refl
    template_stays (template arguments) = expressions_stay arguments

  -- ---- attributes
  attribute_renamed : Commutes attribute_names (renamed_attribute f)
  attribute_renamed (attribute.with_argument attribute.align e) = node_renamed e
  attribute_renamed (attribute.with_argument attribute.binding e) = node_renamed e
  attribute_renamed (attribute.with_argument attribute.blend_src e) = node_renamed e
  attribute_renamed (attribute.with_argument attribute.group e) = node_renamed e
  attribute_renamed (attribute.with_argument attribute.id e) = node_renamed e
  attribute_renamed (attribute.with_argument attribute.location e) = node_renamed e
  attribute_renamed (attribute.with_argument attribute.size e) = node_renamed e
  attribute_renamed (attribute.with_argument attribute.if_attribute e) = node_stays e
  attribute_renamed (attribute.with_argument attribute.elif_attribute e) = node_stays e
  attribute_renamed (attribute.without_argument name) = refl
  attribute_renamed (attribute.builtin value) = refl
  attribute_renamed (attribute.diagnostic d) = refl
  attribute_renamed (attribute.interpolate j) = refl
  attribute_renamed (attribute.workgroup_size w) = λ i. node_renamed w.x i
      then maybe_node_renamed w.y i then maybe_node_renamed w.z i
  attribute_renamed (attribute.type_constraint t) =
      λ i. used (f t.ident) then each_renamed type_names (renamed_type f) type_renamed t.variants i
  attribute_renamed (attribute.custom c) =
      maybe_stays (each (names_in unknown)) (each_stays (names_in unknown) node_stays) c.arguments

  attributes_renamed : Commutes attributes_names (renamed_attributes f)
  attributes_renamed =
      each_renamed spanned_attribute_names (renamed_spanned (renamed_attribute f)) (λ a. attribute_renamed a.node)

  -- ---- declarations
  attribute_branch : (a : attribute.Attribute) → branch_of (renamed_attribute f a) ≡ branch_of a
  attribute_branch (attribute.with_argument attribute.if_attribute e) = refl
  attribute_branch a = refl

  attributes_branch : (attributes : attribute.Attributes)
      → branch_under (renamed_attributes f attributes) ≡ branch_under attributes
  attributes_branch [] = refl
  attributes_branch (a ∷ attributes) =
      λ i. both_branches (attribute_branch a.node i) (attributes_branch attributes i)

  declared_in_renamed : (branch : Option Branch) → Commutes (declared_in branch) (option_map f)
  declared_in_renamed None None = refl
  declared_in_renamed None (Some x) = refl
  declared_in_renamed (Some branch) name = refl

  declared_renamed : (attributes : attribute.Attributes) (name : Option (List ℕ))
      → declared_under (renamed_attributes f attributes) (option_map f name)
      ≡ renamed_names f (declared_under attributes name)
  declared_renamed attributes name = (λ i. declared_in (attributes_branch attributes i) (option_map f name))
      ∙ declared_in_renamed (branch_under attributes) name

  -- ---- statements
  selector_renamed : Commutes selector_names (renamed_selector f)
  selector_renamed tree.default_selector = refl
  selector_renamed (tree.expression_selector e) = node_renamed e

  break_if_renamed : Commutes break_if_names (renamed_attributed f (renamed_break_if f))
  break_if_renamed b = λ i. attributes_renamed b.attributes i then node_renamed b.node.expression i

  name_renamed : (s : tree.UnattributedStatement)
      → name_declared (tree.changed_unattributed (renaming f) s) ≡ option_map f (name_declared s)
  name_renamed (tree.declaration d) = refl
  name_renamed s = refl

  module _ (words : FixesWords f) where
    mode_renamed : (mode : Option AccessMode) → maybe mode_names mode ≡ renamed_names f (maybe mode_names mode)
    mode_renamed None = refl
    mode_renamed (Some mode) = ap used (sym (words.modes mode))

    kind_renamed : (kind : tree.DeclarationKind) → kind_names kind ≡ renamed_names f (kind_names kind)
    kind_renamed tree.const_kind = refl
    kind_renamed tree.override_kind = refl
    kind_renamed tree.let_kind = refl
    kind_renamed (tree.var_kind None) = refl
    kind_renamed (tree.var_kind (Some (space, mode))) =
        λ i. used (sym (words.spaces space) i) then mode_renamed mode i

    value_renamed : Commutes value_names (renamed_declaration f)
    value_renamed d = λ i. kind_renamed d.kind i then maybe_type_renamed d.ty i
        then maybe_node_renamed d.initializer i

    mutual
      statement_renamed : Commutes statement_names (tree.changed_statement (renaming f))
      statement_renamed (tree.statement attributes s) = λ i. attributes_renamed attributes i
          then unattributed_renamed s i
          then ((λ j. declared_under (renamed_attributes f attributes) (name_renamed s j))
          ∙ declared_renamed attributes (name_declared s)) i

      statement_node_renamed : Commutes statement_node_names (tree.changed_node (renaming f))
      statement_node_renamed (tree.statement_node s span) = statement_renamed s

      unattributed_renamed : Commutes unattributed_names (tree.changed_unattributed (renaming f))
      unattributed_renamed (tree.compound ss) = λ i. scope (statements_renamed ss i)
      unattributed_renamed (tree.assignment a) = λ i. node_renamed a.lhs i then node_renamed a.rhs i
      unattributed_renamed (tree.increment s) = node_renamed s.expression
      unattributed_renamed (tree.decrement s) = node_renamed s.expression
      unattributed_renamed (tree.if_statement s) = if_renamed s
      unattributed_renamed (tree.switch_statement s) = switch_renamed s
      unattributed_renamed (tree.loop_statement s) = loop_renamed s
      unattributed_renamed (tree.for_statement s) = for_renamed s
      unattributed_renamed (tree.while_statement s) = while_renamed s
      unattributed_renamed (tree.return_statement s) = maybe_node_renamed s.expression
      unattributed_renamed (tree.function_call_statement s) = call_renamed s.call
      unattributed_renamed (tree.const_assert s) = node_renamed s.expression
      unattributed_renamed (tree.declaration d) = value_renamed d
      unattributed_renamed tree.void = refl
      unattributed_renamed tree.break_statement = refl
      unattributed_renamed tree.continue_statement = refl
      unattributed_renamed tree.discard_statement = refl

      compound_renamed : Commutes compound_names (tree.changed_compound (renaming f))
      compound_renamed (tree.compound_statement attributes ss) =
          λ i. attributes_renamed attributes i then scope (statements_renamed ss i)

      if_renamed : Commutes if_names (tree.changed_if (renaming f))
      if_renamed (tree.if_else clause others last) =
          λ i. if_clause_renamed clause i then else_ifs_renamed others i then else_renamed last i

      if_clause_renamed : Commutes if_clause_names (tree.changed_if_clause (renaming f))
      if_clause_renamed (tree.if_clause condition body) =
          λ i. node_renamed condition i then compound_renamed body i

      else_if_clause_renamed : Commutes else_if_clause_names (tree.changed_else_if_clause (renaming f))
      else_if_clause_renamed (tree.else_if_clause attributes condition body) = λ i. attributes_renamed attributes i
          then node_renamed condition i then compound_renamed body i

      else_clause_renamed : Commutes else_clause_names (tree.changed_else_clause (renaming f))
      else_clause_renamed (tree.else_clause attributes body) =
          λ i. attributes_renamed attributes i then compound_renamed body i

      switch_renamed : Commutes switch_names (tree.changed_switch (renaming f))
      switch_renamed (tree.switch e attributes clauses) =
          λ i. node_renamed e i then attributes_renamed attributes i then clauses_renamed clauses i

      switch_clause_renamed : Commutes switch_clause_names (tree.changed_switch_clause (renaming f))
      switch_clause_renamed (tree.switch_clause attributes selectors body) =
          λ i. attributes_renamed attributes i
          then each_renamed selector_names (renamed_selector f) selector_renamed selectors i
          then compound_renamed body i

      loop_renamed : Commutes loop_names (tree.changed_loop (renaming f))
      loop_renamed (tree.repeat (tree.compound_statement attributes ss) last) = λ i. attributes_renamed attributes i
          then scope (statements_renamed ss i then maybe_continuing_renamed last i)

      continuing_renamed : Commutes continuing_names (tree.changed_continuing (renaming f))
      continuing_renamed (tree.continuing attributes (tree.compound_statement block_attributes ss) break_if) =
          λ i. attributes_renamed attributes i then attributes_renamed block_attributes i
          then scope (statements_renamed ss i then maybe_renamed break_if_names
          (renamed_attributed f (renamed_break_if f)) break_if_renamed break_if i)

      for_renamed : Commutes for_names (tree.changed_for (renaming f))
      for_renamed (tree.repeat_for initializer condition update body) = λ i. scope (part_renamed initializer i
          then maybe_node_renamed condition i then part_renamed update i then compound_renamed body i)

      while_renamed : Commutes while_names (tree.changed_while (renaming f))
      while_renamed (tree.repeat_while condition body) =
          λ i. node_renamed condition i then compound_renamed body i

      statements_renamed : Commutes statements_names (tree.changed_statements (renaming f))
      statements_renamed tree.no_statements = refl
      statements_renamed (tree.statement_before s ss) =
          λ i. statement_node_renamed s i then statements_renamed ss i

      part_renamed : Commutes part_names (tree.changed_part (renaming f))
      part_renamed tree.no_statement = refl
      part_renamed (tree.one_statement s) = statement_node_renamed s

      else_ifs_renamed : Commutes else_ifs_names (tree.changed_else_ifs (renaming f))
      else_ifs_renamed tree.no_else_ifs = refl
      else_ifs_renamed (tree.else_if_before c cs) =
          λ i. else_if_clause_renamed c i then else_ifs_renamed cs i

      else_renamed : Commutes else_names (tree.changed_else (renaming f))
      else_renamed tree.no_else = refl
      else_renamed (tree.one_else c) = else_clause_renamed c

      clauses_renamed : Commutes clauses_names (tree.changed_clauses (renaming f))
      clauses_renamed tree.no_clauses = refl
      clauses_renamed (tree.clause_before c cs) =
          λ i. switch_clause_renamed c i then clauses_renamed cs i

      maybe_continuing_renamed : Commutes maybe_continuing_names (tree.changed_maybe_continuing (renaming f))
      maybe_continuing_renamed tree.no_continuing = refl
      maybe_continuing_renamed (tree.one_continuing c) = continuing_renamed c

    -- ---- modules
    member_renamed : Commutes member_names (renamed_spanned (renamed_member f))
    member_renamed m = λ i. attributes_renamed m.node.attributes i then type_renamed m.node.ty i

    parameter_renamed : Commutes parameter_names (renamed_parameter f)
    parameter_renamed p = λ i. attributes_renamed p.attributes i then type_renamed p.ty i

    function_renamed : Commutes function_names (renamed_function f)
    function_renamed x = λ i. each_renamed parameter_names (renamed_parameter f) parameter_renamed x.parameters i
        then attributes_renamed x.return_attributes i
        then maybe_type_renamed x.return_type i
        then scope (each_renamed parameter_declared (renamed_parameter f)
        (λ p. declared_renamed p.attributes (Some p.ident)) x.parameters i
        then compound_renamed x.body i)

    content_renamed : Commutes content_names (renamed_unattributed f)
    content_renamed unit.void = refl
    content_renamed (unit.declaration d) = value_renamed d
    content_renamed (unit.type_alias a) = type_renamed a.ty
    content_renamed (unit.structure s) =
        each_renamed member_names (renamed_spanned (renamed_member f)) member_renamed s.members
    content_renamed (unit.function x) = function_renamed x
    content_renamed (unit.const_assert c) = node_renamed c.expression

    global_renamed : Commutes global_names (renamed_spanned (renamed_global f))
    global_renamed d = λ i. attributes_renamed d.node.attributes i then content_renamed d.node.node i

    global_name_renamed : (d : unit.UnattributedDeclaration)
        → global_name (renamed_unattributed f d) ≡ option_map f (global_name d)
    global_name_renamed unit.void = refl
    global_name_renamed d = refl

    global_declared_renamed : Commutes global_declared (renamed_spanned (renamed_global f))
    global_declared_renamed d =
        (λ i. declared_under (renamed_attributes f d.node.attributes) (global_name_renamed d.node.node i))
        ∙ declared_renamed d.node.attributes (global_name d.node.node)

    pub unit_renamed : Commutes unit_names (renamed_unit f)
    unit_renamed u = λ i.
        each_renamed global_declared (renamed_spanned (renamed_global f))
        global_declared_renamed u.global_declarations i
        then each_renamed directive_names (renamed_directive f)
        (λ d. attributes_renamed d.attributes) u.global_directives i
        then each_renamed global_names (renamed_spanned (renamed_global f)) global_renamed u.global_declarations i
