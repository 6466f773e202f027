-- Rows of scopes: a module, and what each of its uses refers to. Declarations are counted from 0:
-- those of the module, then parameters and those in bodies, as they come.
use Rattle.std.specs.Prelude.{List, [], ◌∷◌, Some, None, codes}
use Rattle.wgsl_model.specs.Trees.Attributed.{without_attributes}
use Rattle.wgsl_model.specs.Trees.Statements.{DeclarationKind, CaseSelector, ElseIfClause, ElseClause, UnattributedStatement, statements_of, local_of, if_of, increment_of, return_of, clause_of, switch_of, loop_of, for_of, while_of, break_if_of, continuing_statement_of}
use Rattle.wgsl_model.specs.Trees.Units.{TranslationUnit}
use Rattle.wgsl_model_names.specs.Scopes.{Referent, declaration, outside}
use Rattle.wgsl_laws_names.specs.RowParts.{a, b, c, f, g, x, y, z, name, number, sum, type_named, statement_of, let_is, call_alone, block, declaration_of, const_is, parameter, function_returning, function_of, module_of}

-- const a = b; const b = 1;
abbrev pub used_before_declared : TranslationUnit
used_before_declared = module_of (const_is a (name b) ∷ const_is b (number 1) ∷ [])

abbrev pub used_before_declared_referents : List Referent
used_before_declared_referents = declaration 1 ∷ []

-- fn f() { let x = 1; let y = x; { let x = y; let z = x; } let a = x; }
abbrev pub shadowed_in_a_block : TranslationUnit
shadowed_in_a_block = module_of (function_of f [] (let_is x (number 1) ∷ let_is y (name x)
    ∷ statement_of (UnattributedStatement.compound (statements_of (let_is x (name y) ∷ let_is z (name x) ∷ [])))
    ∷ let_is a (name x) ∷ []) ∷ [])

abbrev pub shadowed_in_a_block_referents : List Referent
shadowed_in_a_block_referents = declaration 1 ∷ declaration 2 ∷ declaration 3 ∷ declaration 1 ∷ []

-- const x = 1; fn f() { let x = x; let y = x; }
abbrev pub own_value : TranslationUnit
own_value = module_of (const_is x (number 1) ∷ function_of f [] (let_is x (name x) ∷ let_is y (name x) ∷ []) ∷ [])

abbrev pub own_value_referents : List Referent
own_value_referents = declaration 0 ∷ declaration 2 ∷ []

-- const a = 1; fn f(a: a, b: a) -> a { return a + b; }
abbrev pub parameters : TranslationUnit
parameters = module_of (const_is a (number 1)
    ∷ declaration_of [] (function_returning f (parameter a a ∷ parameter b a ∷ []) (Some (type_named a))
    (statement_of (return_of (Some (sum (name a) (name b)))) ∷ [])) ∷ [])

abbrev pub parameters_referents : List Referent
parameters_referents = declaration 0 ∷ declaration 0 ∷ declaration 0 ∷ declaration 2 ∷ declaration 3 ∷ []

-- fn f(a: i32) { let a = a; let b = a; } fn g() { let c = a; }
abbrev pub ends_with_its_function : TranslationUnit
ends_with_its_function = module_of (
    function_of f (parameter a (codes "i32") ∷ []) (let_is a (name a) ∷ let_is b (name a) ∷ [])
    ∷ function_of g [] (let_is c (name a) ∷ []) ∷ [])

abbrev pub ends_with_its_function_referents : List Referent
ends_with_its_function_referents = outside (codes "i32") ∷ declaration 2 ∷ declaration 3 ∷ outside a ∷ []

-- const x = 1; fn f() { for (var x = x; x + 4; x++) { let x = x; let y = x; } let z = x; }
abbrev pub for_header : TranslationUnit
for_header = module_of (const_is x (number 1) ∷ function_of f [] (
    statement_of (for_of
    (Some (statement_of (local_of (DeclarationKind.var_kind None) (x, None) (Some (name x)))))
    (Some (sum (name x) (number 4))) (Some (statement_of (increment_of (name x))))
    (block (let_is x (name x) ∷ let_is y (name x) ∷ [])))
    ∷ let_is z (name x) ∷ []) ∷ [])

abbrev pub for_header_referents : List Referent
for_header_referents = declaration 0 ∷ declaration 2 ∷ declaration 2 ∷ declaration 2 ∷ declaration 3
    ∷ declaration 0 ∷ []

-- const x = 1; fn f() { switch x { case x: { let x = x; let y = x; } default: { let z = x; } } }
abbrev pub switch_clauses : TranslationUnit
switch_clauses = module_of (const_is x (number 1) ∷ function_of f [] (statement_of (switch_of (name x) []
    (clause_of [] (CaseSelector.expression_selector (name x) ∷ [], block (let_is x (name x) ∷ let_is y (name x) ∷ []))
    ∷ clause_of [] (CaseSelector.default_selector ∷ [], block (let_is z (name x) ∷ [])) ∷ [])) ∷ []) ∷ [])

abbrev pub switch_clauses_referents : List Referent
switch_clauses_referents = declaration 0 ∷ declaration 0 ∷ declaration 0 ∷ declaration 2 ∷ declaration 0 ∷ []

-- const x = 1; fn f() { loop { let x = x; continuing { let y = x; let x = y; break if x + y; } } let z = x; }
abbrev pub continuing_block : TranslationUnit
continuing_block = module_of (const_is x (number 1) ∷ function_of f [] (
    statement_of (loop_of [] (let_is x (name x) ∷ []) (Some (continuing_statement_of [] (
      block (let_is y (name x) ∷ let_is x (name y) ∷ []),
      Some (without_attributes (break_if_of (sum (name x) (name y)))),
    ))))
    ∷ let_is z (name x) ∷ []) ∷ [])

abbrev pub continuing_block_referents : List Referent
continuing_block_referents = declaration 0 ∷ declaration 2 ∷ declaration 3 ∷ declaration 4
    ∷ declaration 3 ∷ declaration 0 ∷ []

-- const x = 1; fn f() { if x { let x = x; } else if x { let x = 2; } else { let y = x; } let z = x; }
abbrev pub if_and_else : TranslationUnit
if_and_else = module_of (const_is x (number 1) ∷ function_of f [] (
    statement_of (if_of (name x) (block (let_is x (name x) ∷ [])) (
      ElseIfClause.else_if_clause [] (name x) (block (let_is x (number 2) ∷ [])) ∷ [],
      Some (ElseClause.else_clause [] (block (let_is y (name x) ∷ []))),
    ))
    ∷ let_is z (name x) ∷ []) ∷ [])

abbrev pub if_and_else_referents : List Referent
if_and_else_referents = declaration 0 ∷ declaration 0 ∷ declaration 0 ∷ declaration 0 ∷ declaration 0 ∷ []

-- fn f(x: bool) { while x { let x = x; let y = x; } let z = x; }
abbrev pub while_body : TranslationUnit
while_body = module_of (function_of f (parameter x (codes "bool") ∷ []) (
    statement_of (while_of (name x) (block (let_is x (name x) ∷ let_is y (name x) ∷ [])))
    ∷ let_is z (name x) ∷ []) ∷ [])

abbrev pub while_body_referents : List Referent
while_body_referents = outside (codes "bool") ∷ declaration 1 ∷ declaration 1 ∷ declaration 2 ∷ declaration 1 ∷ []

-- fn f() { g(); } fn g() { f(); let f = 1; let g = f; }
abbrev pub functions : TranslationUnit
functions = module_of (
    function_of f [] (call_alone g ∷ [])
    ∷ function_of g [] (call_alone f ∷ let_is f (number 1) ∷ let_is g (name f) ∷ []) ∷ [])

abbrev pub functions_referents : List Referent
functions_referents = declaration 1 ∷ declaration 0 ∷ declaration 2 ∷ []
