-- Trees without their empty items: the printed text is the same, and removing twice is removing
-- once.
use Rattle.std.proofs.Common.{ℕ, ◌≡◌, refl, ◌∙◌, ap, Bool, true, false, List, [], ◌∷◌, ◌++◌, map, codes, if◌then◌else◌}
use Rattle.wgsl_model.specs.Trees.Spanned.{Spanned}
use Rattle.wgsl_model.specs.Trees.Statements.{StatementNode, statement_node, Statement, CompoundStatement, changed_node}
use Rattle.wgsl_model.specs.Trees.Units as tree
use Rattle.wgsl_model.specs.Printed.Joining.{joined}
use Rattle.wgsl_model.specs.Printed.Attributes.{print_attribute_line}
use Rattle.wgsl_model.specs.Printed.Statements.{print_statement, print_compound}
use Rattle.wgsl_model.specs.Printed.Units as printed
use Rattle.wgsl_model.specs.Trees.EmptyItems as items
use Rattle.wgsl_theory_reread.proofs.Trees.Changed as changed
use Rattle.wgsl_theory_reread.proofs.Trees.ChangedNodes as nodes

print_is_kept : changed.KeepsPrint items.without_empty
print_is_kept = record {
  attributes = λ attributes. refl;
  expression = λ e. refl;
  condition = λ e. refl;
  selectors = λ ss. refl;
  break_if = λ b. refl;
  simple = λ s. refl;
  simple_end = λ attributes s. refl;
  left_out = λ s void. void;
}

pub statement_printed : (s : Statement) → print_statement (items.full_statement s) ≡ print_statement s
statement_printed = nodes.statement_kept items.without_empty print_is_kept

pub compound_printed : (b : CompoundStatement) → print_compound (items.full_compound b) ≡ print_compound b
compound_printed = nodes.compound_kept items.without_empty print_is_kept

-- a statement that is not empty does not become so
node_kept : (s : StatementNode) → items.is_void_node (changed_node items.without_empty s) ≡ items.is_void_node s
node_kept (statement_node s span) = ap (λ (e : List ℕ × Bool). e.1)
    (nodes.end_kept items.without_empty print_is_kept s)

parts_twice : changed.PartsTwice items.without_empty
parts_twice = record {
  attributes = λ attributes. refl;
  expression = λ e. refl;
  condition = λ e. refl;
  selectors = λ ss. refl;
  break_if = λ b. refl;
  simple = λ s same. same;
  span = λ span. refl;
  left_out = node_kept;
}

pub statement_twice : (s : Statement) → items.full_statement (items.full_statement s) ≡ items.full_statement s
statement_twice = nodes.statement_twice items.without_empty parts_twice

pub compound_twice : (b : CompoundStatement) → items.full_compound (items.full_compound b) ≡ items.full_compound b
compound_twice = nodes.compound_twice items.without_empty parts_twice

-- ---- declarations and modules
void_kept : (d : tree.UnattributedDeclaration)
    → printed.is_void_declaration (items.full_unattributed_declaration d) ≡ printed.is_void_declaration d
void_kept tree.void = refl
void_kept d = refl

unattributed_twice : (d : tree.UnattributedDeclaration)
    → items.full_unattributed_declaration (items.full_unattributed_declaration d)
    ≡ items.full_unattributed_declaration d
unattributed_twice tree.void = refl
unattributed_twice (tree.declaration d) = refl
unattributed_twice (tree.type_alias a) = refl
unattributed_twice (tree.structure s) = refl
unattributed_twice (tree.function f) = ap (λ body. tree.function (record f { body = body })) (compound_twice f.body)
unattributed_twice (tree.const_assert c) = refl

pub declaration_twice : (d : tree.GlobalDeclaration)
    → items.full_declaration (items.full_declaration d) ≡ items.full_declaration d
declaration_twice d = λ i. record d { node = unattributed_twice d.node i }

one_twice : (d : Spanned tree.GlobalDeclaration) (rest : List (Spanned tree.GlobalDeclaration)) (b : Bool)
    → printed.is_void (items.full_declaration d.node) ≡ b → items.full_declarations rest ≡ rest
    → items.full_declarations (if b then rest else record d { node = items.full_declaration d.node } ∷ rest)
    ≡ (if b then rest else record d { node = items.full_declaration d.node } ∷ rest)
one_twice d rest true e others = others
one_twice d rest false e others =
    let twice = record d { node = items.full_declaration (items.full_declaration d.node) }
    ∷ items.full_declarations rest in
    ap (λ b. if b then items.full_declarations rest else twice) e
    ∙ (λ i. record d { node = declaration_twice d.node i } ∷ others i)

declarations_twice : (ds : List (Spanned tree.GlobalDeclaration))
    → items.full_declarations (items.full_declarations ds) ≡ items.full_declarations ds
declarations_twice [] = refl
declarations_twice (d ∷ ds) = one_twice d (items.full_declarations ds) (printed.is_void d.node)
    (void_kept d.node.node) (declarations_twice ds)

pub unit_twice : (u : tree.TranslationUnit) → items.full_unit (items.full_unit u) ≡ items.full_unit u
unit_twice u = λ i. record u { global_declarations = declarations_twice u.global_declarations i }

unattributed_printed : (d : tree.UnattributedDeclaration)
    → printed.print_unattributed_declaration (items.full_unattributed_declaration d)
    ≡ printed.print_unattributed_declaration d
unattributed_printed tree.void = refl
unattributed_printed (tree.declaration d) = refl
unattributed_printed (tree.type_alias a) = refl
unattributed_printed (tree.structure s) = refl
unattributed_printed (tree.function f) =
    let head = codes "fn " ++ f.ident ++ codes "(" ++ joined (codes ", ") (map printed.print_parameter
    f.parameters) ++ codes ") " ++ printed.print_result f.return_attributes f.return_type in
    ap (λ body. head ++ body) (compound_printed f.body)
unattributed_printed (tree.const_assert c) = refl

pub declaration_printed : (d : tree.GlobalDeclaration)
    → printed.print_global_declaration (items.full_declaration d) ≡ printed.print_global_declaration d
declaration_printed d = ap (λ text. print_attribute_line d.attributes ++ text) (unattributed_printed d.node)

one_text : (d : Spanned tree.GlobalDeclaration) (rest : List (Spanned tree.GlobalDeclaration))
    (texts : List (List ℕ)) (b : Bool) → printed.is_void (items.full_declaration d.node) ≡ b
    → printed.declaration_texts rest ≡ texts
    → printed.declaration_texts (if b then rest else record d { node = items.full_declaration d.node } ∷ rest)
    ≡ (if b then texts else printed.print_global_declaration d.node ∷ texts)
one_text d rest texts true e others = others
one_text d rest texts false e others =
    let shown = printed.print_global_declaration (items.full_declaration d.node) ∷ printed.declaration_texts rest in
    ap (λ b. if b then printed.declaration_texts rest else shown) e ∙ (λ i. declaration_printed d.node i ∷ others i)

texts_kept : (ds : List (Spanned tree.GlobalDeclaration))
    → printed.declaration_texts (items.full_declarations ds) ≡ printed.declaration_texts ds
texts_kept [] = refl
texts_kept (d ∷ ds) = one_text d (items.full_declarations ds) (printed.declaration_texts ds)
    (printed.is_void d.node) (void_kept d.node.node) (texts_kept ds)

pub unit_printed : (u : tree.TranslationUnit) → printed.print_unit (items.full_unit u) ≡ printed.print_unit u
unit_printed u = λ i. printed.print_directives u.global_directives
    ++ joined (codes "\n\n") (texts_kept u.global_declarations i) ++ codes "\n"
