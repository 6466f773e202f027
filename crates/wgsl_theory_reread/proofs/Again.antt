-- What it means that a value is read again: a list of tokens with the kinds that are written from
-- the value derives a value that is the same, ignoring spans and empty items.
use Rattle.std.proofs.Common.{◌≡◌, Bool, true, false, List, ◌∷◌, map, Option, Some}
use Rattle.std.specs.Option.{option_map}
use Rattle.grammar.specs.Tokens.{Token}
use Rattle.grammar.specs.Grammar.{Mode.checking, Part}
use Rattle.wgsl_model.specs.Tokens.Kind.{Kind, plain}
use Rattle.wgsl_model.specs.Tokens.ClassTable.{SymAttr, SymParenLeft, SymSemicolon, KwDiagnostic, TemplateArgsStart, TemplateArgsEnd}
use Rattle.wgsl_model.specs.Tokens.Raw.{kind_of_word}
use Rattle.wgsl_model.specs.Tokens.Words.{look_up}
use Rattle.wgsl_model.specs.Trees.NamedValues.{DiagnosticSeverity, severities}
use Rattle.wgsl_model.specs.Trees.Expressions.{ExpressionNode, Expression}
use Rattle.wgsl_model.specs.Trees.Attributes.{Attribute}
use Rattle.wgsl_model.specs.Trees.Statements.{StatementNode, statement_node, Statement}
use Rattle.wgsl_model.specs.Grammar.Checks.{Checked.right, attribute_of, var_kind_of}
use Rattle.wgsl_model.specs.Grammar.TokenValues.{text_of}
use Rattle.wgsl_model.specs.Trees.WithoutSpans.{bare_spanned, bare_expression, bare_expression_node, bare_call, bare_type}
use Rattle.wgsl_model.specs.Trees.StatementsWithoutSpans.{bare_attributed, bare_assert, bare_selector, bare_statement, bare_statement_node, bare_compound, bare_switch_clause, bare_continuing, bare_member, bare_parameter, bare_directive, bare_global_declaration, bare_unit}
use Rattle.wgsl_model.specs.Trees.EmptyItems.{full_statement, full_compound, full_switch_clause, full_continuing, full_declaration, full_unit}
use Rattle.wgsl_model.specs.Grammar.Symbols.{Symbol, ident, type_specifier, template_list, expressions, call, arguments, literal, primary_expression, singular_expression, component, unary_expression, multiplicative_expression, negated_expression, additive_expression, shift_expression, relational_expression, expression, lhs_expression, attribute, compound_statement, statement, const_assert, switch_clause, case_selector, continuing_statement, for_init, for_update, var_template, typed_ident, struct_member, formal_parameter, global_declaration, var_declaration, const_declaration, override_declaration, alias_declaration, struct_declaration, function_declaration, diagnostic_severity, global_directive, enable_directive, requires_directive, diagnostic_directive, unit, Value}
use Rattle.wgsl_model.specs.Printed.Statements.{is_void}
use Rattle.wgsl_model.specs.Grammar.Written.{written}
use Rattle.wgsl_theory_grammar.proofs.Faults.WrittenEnds.{closing}
use Rattle.wgsl_theory_reread.specs.CanonicalExpressions.{Writer, optional_tokens, list_tokens, literal_token, expression_tokens, expression_node_tokens, call_tokens, type_tokens}
use Rattle.wgsl_theory_reread.specs.CanonicalAttributes.{arguments_tokens, named_attribute_tokens, attributes_tokens}
use Rattle.wgsl_theory_reread.specs.CanonicalStatements.{kind_tokens, typed_tokens, assert_tokens, selector_tokens, end_token, unended_tokens, statement_tokens, compound_tokens, switch_clause_tokens, continuing_tokens}
use Rattle.wgsl_theory_reread.specs.CanonicalUnits.{directive_tokens, member_tokens, parameter_tokens, global_declaration_tokens, unit_tokens, without_place}
use Rattle.wgsl_theory_reread.proofs.Words.{NoPeriod, AllWords}

-- the kinds of statements: all symbols but these
abbrev pub IsKind : Symbol → Type 0
IsKind ident = ⊥
IsKind type_specifier = ⊥
IsKind template_list = ⊥
IsKind expressions = ⊥
IsKind call = ⊥
IsKind arguments = ⊥
IsKind literal = ⊥
IsKind primary_expression = ⊥
IsKind singular_expression = ⊥
IsKind component = ⊥
IsKind unary_expression = ⊥
IsKind multiplicative_expression = ⊥
IsKind negated_expression = ⊥
IsKind additive_expression = ⊥
IsKind shift_expression = ⊥
IsKind relational_expression = ⊥
IsKind expression = ⊥
IsKind lhs_expression = ⊥
IsKind attribute = ⊥
IsKind compound_statement = ⊥
IsKind statement = ⊥
IsKind const_assert = ⊥
IsKind switch_clause = ⊥
IsKind case_selector = ⊥
IsKind continuing_statement = ⊥
IsKind for_init = ⊥
IsKind for_update = ⊥
IsKind var_template = ⊥
IsKind typed_ident = ⊥
IsKind struct_member = ⊥
IsKind formal_parameter = ⊥
IsKind global_declaration = ⊥
IsKind var_declaration = ⊥
IsKind const_declaration = ⊥
IsKind override_declaration = ⊥
IsKind alias_declaration = ⊥
IsKind struct_declaration = ⊥
IsKind function_declaration = ⊥
IsKind diagnostic_severity = ⊥
IsKind global_directive = ⊥
IsKind enable_directive = ⊥
IsKind requires_directive = ⊥
IsKind diagnostic_directive = ⊥
IsKind unit = ⊥
IsKind n = Unit {0}

-- what the symbols derive
abbrev pub D : (n : Symbol) → Value n → List Token → List Token → Type 0
D = Part checking written

-- a statement in the header of a `for`, without the `;` that ends it
abbrev pub header_tokens : Writer StatementNode
header_tokens (statement_node s span) rest = unended_tokens s rest

-- the same without its spans and the empty statements in it
abbrev pub seen_statement : StatementNode → StatementNode
seen_statement (statement_node s span) = bare_statement_node (statement_node (full_statement s) span)

-- the arguments of a template between its ends
abbrev pub template_list_tokens : Writer (List ExpressionNode)
template_list_tokens es rest = plain TemplateArgsStart
    ∷ list_tokens expression_node_tokens es (plain TemplateArgsEnd ∷ rest)

-- the tokens of what each symbol derives; those of a component are written with its base
abbrev pub write : (n : Symbol) → Writer (Value n)
write ident t rest = kind_of_word (text_of t) ∷ rest
write type_specifier v rest = type_tokens v rest
write template_list v rest = template_list_tokens v rest
write expressions v rest = list_tokens expression_node_tokens v rest
write call v rest = call_tokens v rest
write arguments v rest = arguments_tokens v rest
write literal v rest = literal_token v ∷ rest
write primary_expression v rest = expression_node_tokens v rest
write singular_expression v rest = expression_node_tokens v rest
write component v rest = rest
write unary_expression v rest = expression_node_tokens v rest
write multiplicative_expression v rest = expression_node_tokens v rest
write negated_expression v rest = expression_node_tokens v rest
write additive_expression v rest = expression_node_tokens v rest
write shift_expression v rest = expression_node_tokens v rest
write relational_expression v rest = expression_node_tokens v rest
write expression v rest = expression_node_tokens v rest
write lhs_expression v rest = expression_node_tokens v rest
write attribute v rest = plain SymAttr
    ∷ (kind_of_word v.node.name ∷ optional_tokens arguments_tokens v.node.arguments rest)
write compound_statement v rest = compound_tokens v rest
write statement v rest = statement_tokens v rest
write const_assert v rest = attributes_tokens v.attributes (assert_tokens v.node rest)
write switch_clause v rest = switch_clause_tokens v rest
write case_selector v rest = selector_tokens v rest
write continuing_statement v rest = continuing_tokens v rest
write for_init v rest = header_tokens v rest
write for_update v rest = header_tokens v rest
write var_template v rest = kind_tokens (var_kind_of v) rest
write typed_ident v rest = kind_of_word v.0 ∷ optional_tokens typed_tokens v.1 rest
write struct_member v rest = member_tokens v rest
write formal_parameter v rest = parameter_tokens v rest
write global_declaration v rest = global_declaration_tokens v.node rest
write var_declaration v rest = global_declaration_tokens v rest
write const_declaration v rest = global_declaration_tokens v rest
write override_declaration v rest = global_declaration_tokens v rest
write alias_declaration v rest = global_declaration_tokens v rest
write struct_declaration v rest = global_declaration_tokens v rest
write function_declaration v rest = global_declaration_tokens v rest
write diagnostic_severity t rest = plain KwDiagnostic ∷ (plain SymParenLeft ∷ (kind_of_word (text_of t) ∷ rest))
write global_directive v rest = directive_tokens v rest
write enable_directive v rest = directive_tokens v rest
write requires_directive v rest = directive_tokens v rest
write diagnostic_directive v rest = directive_tokens v rest
write unit v rest = unit_tokens v rest
write n v rest = unended_tokens v rest

-- two arguments of an attribute or a `var` that differ by spans alone
abbrev pub same_arguments : Option (List ExpressionNode) → Option (List ExpressionNode)
same_arguments = option_map (map bare_expression_node)

-- what is read again is the same value, ignoring spans and empty items
abbrev pub Same : (n : Symbol) → Value n → Value n → Type 0
Same ident w v = text_of w ≡ text_of v
Same type_specifier w v = bare_type w ≡ bare_type v
Same template_list w v = map bare_expression_node w ≡ map bare_expression_node v
Same expressions w v = map bare_expression_node w ≡ map bare_expression_node v
Same call w v = bare_call w ≡ bare_call v
Same arguments w v = map bare_expression_node w ≡ map bare_expression_node v
Same literal w v = w ≡ v
Same primary_expression w v = bare_expression_node w ≡ bare_expression_node v
Same singular_expression w v = bare_expression_node w ≡ bare_expression_node v
Same component w v = (x y : ExpressionNode) → bare_expression_node x ≡ bare_expression_node y
    → bare_expression (w x) ≡ bare_expression (v y)
Same unary_expression w v = bare_expression_node w ≡ bare_expression_node v
Same multiplicative_expression w v = bare_expression_node w ≡ bare_expression_node v
Same negated_expression w v = bare_expression_node w ≡ bare_expression_node v
Same additive_expression w v = bare_expression_node w ≡ bare_expression_node v
Same shift_expression w v = bare_expression_node w ≡ bare_expression_node v
Same relational_expression w v = bare_expression_node w ≡ bare_expression_node v
Same expression w v = bare_expression_node w ≡ bare_expression_node v
Same lhs_expression w v = bare_expression_node w ≡ bare_expression_node v
Same attribute w v = (w.node.name ≡ v.node.name) × (same_arguments w.node.arguments ≡ same_arguments v.node.arguments)
Same compound_statement w v = bare_compound w ≡ bare_compound (full_compound v)
Same statement w v = bare_statement_node w ≡ seen_statement v
Same const_assert w v = bare_attributed bare_assert w ≡ bare_attributed bare_assert v
Same switch_clause w v = bare_switch_clause w ≡ bare_switch_clause (full_switch_clause v)
Same case_selector w v = bare_selector w ≡ bare_selector v
Same continuing_statement w v = bare_continuing w ≡ bare_continuing (full_continuing v)
Same for_init w v = bare_statement_node w ≡ seen_statement v
Same for_update w v = bare_statement_node w ≡ seen_statement v
Same var_template w v = var_kind_of w ≡ var_kind_of v
Same typed_ident w v = (w.0 ≡ v.0) × (option_map bare_type w.1 ≡ option_map bare_type v.1)
Same struct_member w v = bare_spanned bare_member w ≡ bare_spanned bare_member v
Same formal_parameter w v = bare_parameter w ≡ bare_parameter v
Same global_declaration w v = bare_global_declaration w.node ≡ bare_global_declaration (full_declaration v.node)
Same var_declaration w v = bare_global_declaration w ≡ bare_global_declaration (full_declaration v)
Same const_declaration w v = bare_global_declaration w ≡ bare_global_declaration (full_declaration v)
Same override_declaration w v = bare_global_declaration w ≡ bare_global_declaration (full_declaration v)
Same alias_declaration w v = bare_global_declaration w ≡ bare_global_declaration (full_declaration v)
Same struct_declaration w v = bare_global_declaration w ≡ bare_global_declaration (full_declaration v)
Same function_declaration w v = bare_global_declaration w ≡ bare_global_declaration (full_declaration v)
Same diagnostic_severity w v = text_of w ≡ text_of v
Same global_directive w v = bare_directive w ≡ bare_directive v
Same enable_directive w v = bare_directive w ≡ bare_directive v
Same requires_directive w v = bare_directive w ≡ bare_directive v
Same diagnostic_directive w v = bare_directive w ≡ bare_directive v
Same unit w v = bare_unit w ≡ bare_unit (full_unit v)
Same n w v = bare_statement w ≡ bare_statement (full_statement v)

-- a statement that is not empty and ends with a `;`, and one that does not
abbrev pub Ended : Statement → Type 0
Ended s = (is_void s ≡ false) × ((rest : List Kind) → end_token s rest ≡ plain SymSemicolon ∷ rest)

abbrev pub Unended : Statement → Type 0
Unended s = (is_void s ≡ false) × ((rest : List Kind) → end_token s rest ≡ rest)

-- one that ends as its rule does
abbrev pub EndsAs : Bool → Statement → Type 0
EndsAs true s = Unended s
EndsAs false s = Ended s

-- what else is known of a value that a symbol derives
abbrev pub Known : (n : Symbol) → Value n → Type 0
Known ident t = NoPeriod (text_of t)
Known type_specifier v = Unit {0}
Known template_list v = Unit {0}
Known expressions v = Unit {0}
Known call v = Unit {0}
Known arguments v = Unit {0}
Known literal v = Unit {0}
Known primary_expression v = Unit {0}
Known singular_expression v = Unit {0}
Known component v = Unit {0}
Known unary_expression v = Unit {0}
Known multiplicative_expression v = Unit {0}
Known negated_expression v = Unit {0}
Known additive_expression v = Unit {0}
Known shift_expression v = Unit {0}
Known relational_expression v = Unit {0}
Known expression v = Unit {0}
Known lhs_expression v = Unit {0}
Known attribute v = (a : Attribute) × (attribute_of v.node ≡ right a)
    × ((rest : List Kind) → named_attribute_tokens a rest
    ≡ kind_of_word v.node.name ∷ optional_tokens arguments_tokens v.node.arguments rest)
Known compound_statement v = Unit {0}
Known statement v = Unit {0}
Known const_assert v = Unit {0}
Known switch_clause v = Unit {0}
Known case_selector v = Unit {0}
Known continuing_statement v = Unit {0}
Known for_init v = Unit {0}
Known for_update v = Unit {0}
Known var_template v = Unit {0}
Known typed_ident v = Unit {0}
Known struct_member v = Unit {0}
Known formal_parameter v = Unit {0}
Known global_declaration v = Unit {0}
Known var_declaration v = Unit {0}
Known const_declaration v = Unit {0}
Known override_declaration v = Unit {0}
Known alias_declaration v = Unit {0}
Known struct_declaration v = Unit {0}
Known function_declaration v = Unit {0}
Known diagnostic_severity t = (s : DiagnosticSeverity) × (look_up severities (text_of t) ≡ Some s)
Known global_directive v = Unit {0}
Known enable_directive v = Unit {0}
Known requires_directive v = Unit {0}
Known diagnostic_directive v = Unit {0}
Known unit v = Unit {0}
Known n v = EndsAs (closing n) v

-- what is derived from a list of tokens up to a list with these kinds
pub record Found {A : Type 0} (P : A → List Token → List Token → Type 0) (Like : A → Type 0)
    (us : List Token) (ks : List Kind) : Type 0 where
  pub value : A
  pub rest : List Token
  pub kinds : map without_place rest ≡ ks
  pub like : Like value
  pub derived : P value us rest

-- from every list with the kinds that are written from a value
abbrev pub Finds : {A : Type 0} → (A → List Token → List Token → Type 0) → (A → Type 0)
    → (List Kind → List Kind) → Type 0
Finds P Like written_before = (us : List Token) (ks : List Kind)
    → map without_place us ≡ written_before ks → Found P Like us ks

-- a component is written after its base, whatever that is
abbrev pub FindsComponent : (ExpressionNode → Expression) → Type 0
FindsComponent v = (ks : List Kind) → (ms : List Kind)
    × ((base : ExpressionNode) → expression_tokens (v base) ks ≡ expression_node_tokens base ms)
    × ((us : List Token) → map without_place us ≡ ms → Found (D component) (λ w. Same component w v) us ks)

-- a symbol's value is read again; a negated product is read as a product after a minus
abbrev pub IsFound : (n : Symbol) → Value n → Type 0
IsFound component v = FindsComponent v
IsFound negated_expression v = Finds (D multiplicative_expression)
    (λ w. Same multiplicative_expression w v) (write negated_expression v)
IsFound n v = Finds (D n) (λ w. Same n w v) (write n v)

-- a value that a symbol derives from tokens whose words have the classes of their spellings: so are
-- the tokens after it, and the value is read again
abbrev pub Again : (n : Symbol) → Value n → List Token → List Token → Type 0
Again n v xs ys = AllWords xs → AllWords ys × Known n v × IsFound n v
