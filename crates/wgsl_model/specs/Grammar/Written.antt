-- The grammar as it is written: each rule under its line. A is an attribute; list(X) is X ("," X)*
-- ","?; Block is a compound statement.
-- It accepts more than the draft: attributes before directives, declarations, clauses and most
-- statements (`led`, `left_side`), attributes with any name, and `--` in a sum, as a subtraction of
-- a negation.
-- L is the whole language or the dialect. In the dialect, names are identifier tokens alone, `--`
-- is in no sum, nothing is checked, and the A* of `led` and `left_side` are none; all else is
-- as in the whole language.
use Rattle.std.specs.Prelude.{ℕ, List, [], ◌∷◌, Some}
use Rattle.grammar.specs.Grammar.{Grammar.token, Grammar.symbol, Grammar.left_chain}
use Rattle.grammar.specs.Notation.{one_token, ◌then◌, ◌or◌, ◌gives◌, ◌makes◌, ◌with_check◌, ◌▹◌, ◌◃◌, ◌means◌, optional, many, several, list, list_or_none}
use Rattle.wgsl_model.specs.Tokens.ClassTable.{SymAnd, SymAndAnd, SymAttr, SymBracketLeft, SymBracketRight, SymBraceLeft, SymBraceRight, SymColon, SymComma, SymEqual, SymShiftRight, SymShiftLeft, SymMinusMinus, SymPeriod, SymPlusPlus, SymOr, SymOrOr, SymParenLeft, SymParenRight, SymSemicolon, SymUnderscore, SymXor, KwAlias, KwBreak, KwCase, KwConst, KwConstAssert, KwContinue, KwContinuing, KwDefault, KwDiagnostic, KwDiscard, KwEnable, KwFalse, KwFn, KwFor, KwIf, KwLet, KwLoop, KwOverride, KwRequires, KwReturn, KwStruct, KwSwitch, KwTrue, KwVar, KwWhile, Ident, ReservedWord, AbstractInt, I32, U32, AbstractFloat, F32, F16, TemplateArgsStart, TemplateArgsEnd}
pub use Rattle.wgsl_model.specs.Tokens.ClassTable.{keyword_classes}
use Rattle.wgsl_model.specs.Trees.Operators.{BinaryOperator.short_circuit_or, BinaryOperator.short_circuit_and, BinaryOperator.bitwise_or, BinaryOperator.bitwise_and, BinaryOperator.bitwise_xor, BinaryOperator.shift_left, BinaryOperator.shift_right, AssignmentOperator.equal}
use Rattle.wgsl_model.specs.Trees.Spanned.{spanned}
use Rattle.wgsl_model.specs.Trees.Expressions.{Expression}
use Rattle.wgsl_model.specs.Trees.Attributed.{with_attributes, without_attributes}
use Rattle.wgsl_model.specs.Trees.Statements.{DeclarationKind, CaseSelector, statement, UnattributedStatement, unattributed, block_statement, local_of, compound_of, assignment_of, increment_of, decrement_of, call_statement_of, return_of, if_of, assert_of, assert_statement, clause_of, switch_of, loop_of, continuing_statement_of, for_of, while_of}
use Rattle.wgsl_model.specs.Trees.Units.{UnattributedDeclaration}
use Rattle.wgsl_model.specs.Grammar.TokenValues.{text_of, literal_of}
use Rattle.wgsl_model.specs.Grammar.Checks.{unreserved, severity_fault, var_fault, attribute_parts, attribute_fault}
use Rattle.wgsl_model.specs.Grammar.ExpressionParts.{placed_expression, type_of, call_of, index_of, component_of, with_component, unary_of, binary_of, operation_of, negation_of, negated_product_of, unary_operator, multiplicative_operator, relational_operator, summand, two, two_or_more}
use Rattle.wgsl_model.specs.Grammar.StatementParts.{placed_statement, attributes, attributed, led, statements, initializer, var_kind, assignment_operator, underscore_at, open_left_side, parenthesized_left_side, left_side, else_if, else_block, break_if}
use Rattle.wgsl_model.specs.Grammar.UnitParts.{attributed_ident, member_of, parameter_of, value_of, assert_declaration, alias_of, struct_of, return_part, function_of, enable_of, requires_of, diagnostic_of}
use Rattle.wgsl_model.specs.Grammar.Symbols.{Dialect, Dialect.parsed, Dialect.recognized, Symbol, Symbol.ident, Symbol.type_specifier, Symbol.template_list, Symbol.expressions, Symbol.call, Symbol.arguments, Symbol.literal, Symbol.primary_expression, Symbol.singular_expression, Symbol.component, Symbol.unary_expression, Symbol.multiplicative_expression, Symbol.negated_expression, Symbol.additive_expression, Symbol.shift_expression, Symbol.relational_expression, Symbol.expression, Symbol.lhs_expression, Symbol.attribute, Symbol.compound_statement, Symbol.statement, Symbol.return_statement, Symbol.if_statement, Symbol.switch_statement, Symbol.loop_statement, Symbol.for_statement, Symbol.while_statement, Symbol.call_statement, Symbol.var_statement, Symbol.value_statement, Symbol.break_statement, Symbol.continue_statement, Symbol.discard_statement, Symbol.assignment, Symbol.phony_assignment, Symbol.increment, Symbol.decrement, Symbol.const_assert, Symbol.switch_clause, Symbol.case_selector, Symbol.continuing_statement, Symbol.for_init, Symbol.for_update, Symbol.var_template, Symbol.typed_ident, Symbol.struct_member, Symbol.formal_parameter, Symbol.global_declaration, Symbol.var_declaration, Symbol.const_declaration, Symbol.override_declaration, Symbol.alias_declaration, Symbol.struct_declaration, Symbol.function_declaration, Symbol.diagnostic_severity, Symbol.global_directive, Symbol.enable_directive, Symbol.requires_directive, Symbol.diagnostic_directive, Symbol.unit, Value, Rule}

-- the rules of a dialect
abbrev pub rules : Dialect → (n : Symbol) → Rule (Value n)
-- ---- expressions (WGSL, "Expression Grammar Summary")
-- Ident: an identifier; a reserved word is taken for one, and is a fault
rules parsed ident = token (Ident ∷ ReservedWord ∷ []) with_check unreserved
-- of the dialect: an identifier
rules recognized ident = one_token Ident
-- TypeSpecifier = Ident TemplateList?
rules L type_specifier = symbol ident then optional (symbol template_list) gives type_of
-- TemplateList = TemplateArgsStart list(Expression) TemplateArgsEnd
rules L template_list = TemplateArgsStart ▹ list SymComma (symbol expression) ◃ TemplateArgsEnd
-- list(Expression), which decides whether a `<` begins a template list
rules L expressions = list SymComma (symbol expression)
-- Call = TypeSpecifier Args
rules L call = symbol type_specifier then symbol arguments gives call_of
-- Args = "(" list(Expression)? ")"
rules L arguments = SymParenLeft ▹ list_or_none SymComma (symbol expression) ◃ SymParenRight
-- Literal = a number, "true" or "false"
rules L literal = token (KwTrue ∷ KwFalse ∷ AbstractInt ∷ I32 ∷ U32 ∷ AbstractFloat ∷ F32 ∷ F16 ∷ []) gives literal_of
-- Primary = TypeSpecifier / Call / Literal / "(" Expression ")"
rules L primary_expression =
    (symbol type_specifier gives Expression.type_or_identifier or symbol call gives Expression.function_call
    or symbol literal gives Expression.literal or SymParenLeft ▹ symbol expression ◃ SymParenRight
    gives Expression.parenthesized) makes placed_expression
-- Singular = Primary Component*
rules L singular_expression = left_chain with_component (symbol primary_expression) (symbol component)
-- Component = "[" Expression "]" / "." Ident
rules L component = SymBracketLeft ▹ symbol expression ◃ SymBracketRight gives index_of
    or SymPeriod ▹ symbol ident gives component_of
-- Unary = Singular / ("-" "!" "~" "*" "&", one of them) Unary
rules L unary_expression = symbol singular_expression or unary_operator then symbol unary_expression makes unary_of
-- Mul = Unary / Mul ("*" "/" "%") Unary
rules L multiplicative_expression = left_chain binary_of (symbol unary_expression)
    (multiplicative_operator then symbol unary_expression)
-- NegMul = "--" Unary, whose second minus is its negation / NegMul ("*" "/" "%") Unary; it starts
-- at the second minus
rules L negated_expression = left_chain negated_product_of
    (SymMinusMinus ▹ symbol unary_expression makes negation_of)
    (multiplicative_operator then symbol unary_expression)
-- Add = Mul / Add ("+" "-") Mul / Add NegMul, a subtraction by the first minus
-- of the dialect: Add = Mul / Add ("+" "-") Mul
rules L additive_expression = left_chain binary_of (symbol multiplicative_expression) (summand L)
-- Shift = Add / Unary "<<" Unary / Unary ">>" Unary
rules L shift_expression = symbol additive_expression
    or two SymShiftLeft shift_left (symbol unary_expression)
    or two SymShiftRight shift_right (symbol unary_expression)
-- Rel = Shift / Shift ("<" ">" "<=" ">=" "==" "!=") Shift
rules L relational_expression = symbol shift_expression
    or symbol shift_expression then relational_operator then symbol shift_expression makes operation_of
-- Expression = Rel / Rel ("&&" Rel)+ / Rel ("||" Rel)+ / Unary ("&" Unary)+ / Unary ("|" Unary)+ /
-- Unary ("^" Unary)+
rules L expression = symbol relational_expression
    or two_or_more SymAndAnd short_circuit_and (symbol relational_expression)
    or two_or_more SymOrOr short_circuit_or (symbol relational_expression)
    or two_or_more SymAnd bitwise_and (symbol unary_expression)
    or two_or_more SymOr bitwise_or (symbol unary_expression)
    or two_or_more SymXor bitwise_xor (symbol unary_expression)
-- Lhs = OpenLhs / "(" Lhs ")" Component*; OpenLhs = Ident Component* / "*" Lhs / "&" Lhs
rules L lhs_expression = open_left_side or parenthesized_left_side
-- ---- attributes (WGSL, "Attributes")
-- A = "@" name Args?, the name an identifier, a reserved word or a keyword
rules parsed attribute =
    SymAttr ▹ token (Ident ∷ ReservedWord ∷ keyword_classes) then optional (symbol arguments)
    makes attribute_parts with_check attribute_fault
-- of the dialect: A = "@" Ident Args?
rules recognized attribute = SymAttr ▹ one_token Ident then optional (symbol arguments) makes attribute_parts
-- ---- statements (WGSL, "Statements")
-- Block = A* "{" Statement* "}"
rules L compound_statement = attributed compound_of (SymBraceLeft ▹ statements ◃ SymBraceRight)
-- Statement = one of nineteen
rules L statement = (SymSemicolon means unattributed UnattributedStatement.void
    or symbol return_statement ◃ SymSemicolon
    or symbol if_statement
    or symbol switch_statement
    or symbol loop_statement
    or symbol for_statement
    or symbol while_statement
    or symbol call_statement ◃ SymSemicolon
    or symbol var_statement ◃ SymSemicolon
    or symbol value_statement ◃ SymSemicolon
    or symbol break_statement ◃ SymSemicolon
    or symbol continue_statement ◃ SymSemicolon
    or symbol discard_statement ◃ SymSemicolon
    or symbol assignment ◃ SymSemicolon
    or symbol phony_assignment ◃ SymSemicolon
    or symbol increment ◃ SymSemicolon
    or symbol decrement ◃ SymSemicolon
    or symbol compound_statement gives block_statement
    or symbol const_assert ◃ SymSemicolon gives assert_statement) makes placed_statement
-- A* "return" Expression?
rules L return_statement = led L statement (KwReturn ▹ optional (symbol expression) gives return_of)
-- A* "if" Expression Block ("else" "if" Expression Block)* ("else" Block)?
rules L if_statement = attributed statement
    (KwIf ▹ symbol expression then symbol compound_statement then (many else_if then optional else_block)
    gives λ (condition, (block, elses)). if_of condition block elses)
-- A* "switch" Expression A* "{" Clause+ "}"
rules L switch_statement = attributed statement
    (KwSwitch ▹ symbol expression then attributes then SymBraceLeft ▹ several (symbol switch_clause) ◃ SymBraceRight
    gives λ (selected, (body_attributes, clauses)). switch_of selected body_attributes clauses)
-- A* "loop" A* "{" Statement* Continuing? "}"
rules L loop_statement = attributed statement (KwLoop ▹ attributes then SymBraceLeft
    ▹ (statements then optional (symbol continuing_statement)) ◃ SymBraceRight
    gives λ (body_attributes, (body, continuing)). loop_of body_attributes body continuing)
-- A* "for" "(" Init? ";" Expression? ";" Update? ")" Block
rules L for_statement = attributed statement (KwFor ▹ SymParenLeft
    ▹ optional (symbol for_init) ◃ SymSemicolon then optional (symbol expression) ◃ SymSemicolon
    then optional (symbol for_update) ◃ SymParenRight then symbol compound_statement
    gives λ (init, (condition, (update, block))). for_of init condition update block)
-- A* "while" Expression Block
rules L while_statement = attributed statement (KwWhile ▹ symbol expression
    then symbol compound_statement gives λ (condition, block). while_of condition block)
-- A* Call
rules L call_statement = led L statement (symbol call gives call_statement_of)
-- A* "var" TemplateList? Typed ("=" Expression)?
rules L var_statement = led L statement (var_kind then symbol typed_ident then optional initializer
    gives λ (kind, (typed, value)). local_of kind typed value)
-- A* ("let" or "const") Typed "=" Expression
rules L value_statement = led L statement ((KwLet means DeclarationKind.let_kind
    or KwConst means DeclarationKind.const_kind) then symbol typed_ident then initializer
    gives λ (kind, (typed, value)). local_of kind typed (Some value))
-- A* "break"
rules L break_statement = led L statement (KwBreak means UnattributedStatement.break_statement)
-- A* "continue"
rules L continue_statement = led L statement (KwContinue means UnattributedStatement.continue_statement)
-- A* "discard"
rules L discard_statement = led L statement (KwDiscard means UnattributedStatement.discard_statement)
-- Left ("=" or a compound operator) Expression; Left = A* OpenLhs / "(" Lhs ")" Component*
rules L assignment = left_side L then assignment_operator then symbol expression
    gives λ ((attributes, left), (operator, right)). statement attributes (assignment_of left operator right)
-- A* "_" "=" Expression; the left side is the identifier `_`
rules L phony_assignment = led L statement ((one_token SymUnderscore makes underscore_at)
    then initializer gives λ (left, right). assignment_of left equal right)
-- Left "++"
rules L increment = left_side L ◃ SymPlusPlus gives λ (attributes, left). statement attributes (increment_of left)
-- Left "--"
rules L decrement = left_side L ◃ SymMinusMinus gives λ (attributes, left). statement attributes (decrement_of left)
-- A* "const_assert" Expression
rules L const_assert = led L with_attributes (KwConstAssert ▹ symbol expression gives assert_of)
-- Clause = A* ("case" list(Selector) ":"? Block / "default" ":"? Block)
rules L switch_clause = led L clause_of
    (KwCase ▹ list SymComma (symbol case_selector) then optional (one_token SymColon)
    then symbol compound_statement gives (λ (selectors, (colon, block)). (selectors, block))
    or KwDefault ▹ optional (one_token SymColon) then symbol compound_statement
    gives λ (colon, block). (CaseSelector.default_selector ∷ [], block))
-- Selector = "default" / Expression
rules L case_selector = KwDefault means CaseSelector.default_selector
    or symbol expression gives CaseSelector.expression_selector
-- Continuing = A* "continuing" A* "{" Statement* (A* "break" "if" Expression ";")? "}"
rules L continuing_statement = led L continuing_statement_of
    (KwContinuing ▹ attributes then SymBraceLeft ▹ (statements then optional (break_if L)) ◃ SymBraceRight
    gives λ (body_attributes, (body, break_if)). (compound_of body_attributes body, break_if))
-- Init = a `var`, `let`, `const`, assignment, increment, decrement or call, without its ";"
rules L for_init = (symbol var_statement or symbol value_statement or symbol assignment
    or symbol phony_assignment or symbol increment or symbol decrement or symbol call_statement)
    makes placed_statement
-- Update = the last of these
rules L for_update = (symbol assignment or symbol phony_assignment or symbol increment
    or symbol decrement or symbol call_statement) makes placed_statement
-- ---- declarations (WGSL, "Variable and Value Declarations", "Structure Types", "Type Aliases",
-- "Functions")
-- "var" TemplateList?, the address space and access mode of a variable
rules parsed var_template = KwVar ▹ optional (symbol template_list) with_check var_fault
-- of the dialect: "var" TemplateList?
rules recognized var_template = KwVar ▹ optional (symbol template_list)
-- Typed = Ident (":" TypeSpecifier)?
rules L typed_ident = symbol ident then optional (SymColon ▹ symbol type_specifier)
    gives λ (name, ty). (text_of name, ty)
-- Member = A* Ident ":" TypeSpecifier
rules L struct_member = attributed_ident makes member_of
-- Param = A* Ident ":" TypeSpecifier
rules L formal_parameter = attributed_ident gives parameter_of
-- Declaration = one of eight
rules L global_declaration = (SymSemicolon means without_attributes UnattributedDeclaration.void
    or symbol var_declaration
    or symbol const_declaration
    or symbol override_declaration
    or symbol alias_declaration
    or symbol struct_declaration
    or symbol function_declaration
    or symbol const_assert ◃ SymSemicolon gives assert_declaration) makes spanned
-- A* "var" TemplateList? Typed ("=" Expression)? ";"
rules L var_declaration = attributed with_attributes (var_kind then symbol typed_ident
    then optional initializer ◃ SymSemicolon gives λ (kind, (typed, value)). value_of kind typed value)
-- A* "const" Typed "=" Expression ";"
rules L const_declaration = led L with_attributes
    (KwConst ▹ symbol typed_ident then initializer ◃ SymSemicolon
    gives λ (typed, value). value_of DeclarationKind.const_kind typed (Some value))
-- A* "override" Typed ("=" Expression)? ";"
rules L override_declaration = attributed with_attributes
    (KwOverride ▹ symbol typed_ident then optional initializer ◃ SymSemicolon
    gives λ (typed, value). value_of DeclarationKind.override_kind typed value)
-- A* "alias" Ident "=" TypeSpecifier ";"
rules L alias_declaration = led L with_attributes
    (KwAlias ▹ symbol ident then SymEqual ▹ symbol type_specifier ◃ SymSemicolon gives alias_of)
-- A* "struct" Ident "{" list(Member) "}"
rules L struct_declaration = led L with_attributes (KwStruct ▹ symbol ident then SymBraceLeft
    ▹ list SymComma (symbol struct_member) ◃ SymBraceRight gives struct_of)
-- A* "fn" Ident "(" list(Param)? ")" ("->" A* TypeSpecifier)? Block
rules L function_declaration = attributed with_attributes
    (KwFn ▹ symbol ident then SymParenLeft ▹ list_or_none SymComma (symbol formal_parameter) ◃ SymParenRight
    then optional return_part then symbol compound_statement
    gives λ (name, (parameters, (returned, block))). function_of name parameters returned block)
-- ---- directives and modules (WGSL, "Directives", "Diagnostics", "WGSL Module")
-- "diagnostic" "(" Severity, an identifier that names a severity
rules parsed diagnostic_severity = KwDiagnostic ▹ SymParenLeft ▹ symbol ident with_check λ t span. severity_fault t
-- of the dialect: "diagnostic" "(" Severity, an identifier
rules recognized diagnostic_severity = KwDiagnostic ▹ SymParenLeft ▹ symbol ident
-- Directive = one of three
rules L global_directive = symbol enable_directive or symbol requires_directive or symbol diagnostic_directive
-- A* "enable" list(Name) ";"
rules L enable_directive = led L with_attributes
    (KwEnable ▹ list SymComma (symbol ident) ◃ SymSemicolon gives enable_of)
-- A* "requires" list(Name) ";"
rules L requires_directive = led L with_attributes
    (KwRequires ▹ list SymComma (symbol ident) ◃ SymSemicolon gives requires_of)
-- A* "diagnostic" "(" Severity "," Name ("." Name)? ","? ")" ";"
rules L diagnostic_directive = led L with_attributes
    (symbol diagnostic_severity ◃ SymComma then symbol ident then optional (SymPeriod ▹ symbol ident)
    then optional (one_token SymComma) ◃ SymParenRight ◃ SymSemicolon
    gives λ (severity, (first, (second, comma))). diagnostic_of severity first second)
-- Unit = Directive* Declaration*
rules L unit = many (symbol global_directive) then many (symbol global_declaration)
    gives λ (directives, declarations). record { global_directives = directives; global_declarations = declarations }

-- the grammar of the whole language
abbrev pub written : (n : Symbol) → Rule (Value n)
written = rules parsed
