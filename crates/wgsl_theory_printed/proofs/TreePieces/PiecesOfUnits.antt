-- The pieces of a printed module, written from its tree: they print it and have its tokens.
use Rattle.std.proofs.Common.{◌≡◌, ℕ, Bool, true, false, cond, List, [], ◌∷◌, ◌++◌, ◌∙◌, map, Option, Some, None, append-nil}
use Rattle.std.specs.Prelude.{codes}
use Rattle.std.specs.List.{flat_map}
use Rattle.wgsl_model.specs.Tokens.ClassTable.{SymArrow, SymBraceLeft, SymBraceRight, SymColon, SymComma, SymEqual, SymParenLeft, SymParenRight, SymSemicolon, KwAlias, KwDiagnostic, KwEnable, KwFn, KwRequires, KwStruct}
use Rattle.wgsl_model.specs.Trees.NamedValues.{severity_text}
use Rattle.wgsl_model.specs.Trees.Spanned.{Spanned}
use Rattle.wgsl_model.specs.Trees.Expressions.{TypeExpression}
use Rattle.wgsl_model.specs.Trees.Attributes.{Attributes}
use Rattle.wgsl_model.specs.Trees.Units.{GlobalDirective, UnattributedDirective, diagnostic, enable, requires, StructMember, FormalParameter, Function, GlobalDeclaration, UnattributedDeclaration, void, declaration, type_alias, structure, function, const_assert, TranslationUnit}
use Rattle.wgsl_model.specs.Printed.Joining.{joined}
use Rattle.wgsl_model.specs.Printed.Indentation.{indented}
use Rattle.wgsl_model.specs.Printed.Expressions.{print_type}
use Rattle.wgsl_model.specs.Printed.Attributes.{print_attributes}
use Rattle.wgsl_model.specs.Printed.Units.{print_unattributed_directive, print_directive, print_member, print_parameter, print_result, print_function, print_unattributed_declaration, print_global_declaration, is_void, declaration_texts, print_directives, print_unit}
use Rattle.wgsl_model.proofs.Filled.{left_filled, member_filled}
use Rattle.wgsl_theory_reread.specs.CanonicalExpressions.{all_tokens, list_tokens, further_tokens, word_token}
use Rattle.wgsl_theory_reread.specs.CanonicalUnits.{unattributed_directive_tokens, directive_tokens, attributed_tokens, member_tokens, parameter_tokens, result_tokens, function_tokens, unattributed_declaration_tokens, global_declaration_tokens, kept_declaration_tokens, unit_tokens, canonical}
use Rattle.wgsl_theory_printed.proofs.Spelling.Pieces.{Piece, space, bytes_of, kinds, Fits}
use Rattle.wgsl_theory_printed.proofs.TreePieces.Printing.{Puts, Prints, none_prints, ◌before◌, word_prints, space_prints, four, line, line_prints, indented_prints}
use Rattle.wgsl_theory_printed.proofs.TreePieces.PiecesOfExpressions.{sign, name, comma, type_pieces, name_prints, comma_prints, type_prints}
use Rattle.wgsl_theory_printed.proofs.TreePieces.PiecesOfAttributes.{further_pieces, list_pieces, list_prints, rule_pieces, rule_prints, attributes_pieces, attributes_print}
use Rattle.wgsl_theory_printed.proofs.TreePieces.PiecesOfStatements.{declaration_pieces, declaration_prints, assert_pieces, assert_prints}
use Rattle.wgsl_theory_printed.proofs.TreePieces.PiecesNodes.{compound_pieces, compound_prints}

-- ---- the pieces

-- what is after the attributes of a directive
abbrev pub unattributed_directive_pieces : UnattributedDirective → Puts
unattributed_directive_pieces (diagnostic d) rest =
    sign (codes "diagnostic") KwDiagnostic
    (space ∷ sign (codes "(") SymParenLeft (name (severity_text d.severity)
    (comma (rule_pieces d.rule_name (sign (codes ")") SymParenRight (sign (codes ";") SymSemicolon rest))))))
unattributed_directive_pieces (enable d) rest = sign (codes "enable") KwEnable
    (space ∷ list_pieces name d.extensions (sign (codes ";") SymSemicolon rest))
unattributed_directive_pieces (requires d) rest = sign (codes "requires") KwRequires
    (space ∷ list_pieces name d.extensions (sign (codes ";") SymSemicolon rest))

-- a directive
abbrev pub directive_pieces : GlobalDirective → Puts
directive_pieces d rest = attributes_pieces (line 0) d.attributes (unattributed_directive_pieces d.node rest)

-- attributes, a name and its type
abbrev pub attributed_pieces : Puts → Attributes → List ℕ → TypeExpression → Puts
attributed_pieces end attributes ident ty rest = attributes_pieces end attributes
    (name ident (sign (codes ":") SymColon (space ∷ type_pieces ty rest)))

-- a member of a structure, on a line four spaces in
abbrev pub member_pieces : Spanned StructMember → Puts
member_pieces m rest = attributed_pieces (line 1) m.node.attributes m.node.ident m.node.ty rest

-- further members, each after a comma and on a line of its own
abbrev pub further_members_pieces : List (Spanned StructMember) → Puts
further_members_pieces [] rest = rest
further_members_pieces (m ∷ ms) rest = sign (codes ",") SymComma
    (line 1 (member_pieces m (further_members_pieces ms rest)))

abbrev pub members_pieces : List (Spanned StructMember) → Puts
members_pieces [] rest = rest
members_pieces (m ∷ ms) rest = four (member_pieces m (further_members_pieces ms rest))

-- a space
abbrev pub one_space : Puts
one_space rest = space ∷ rest

-- a parameter of a function
abbrev pub parameter_pieces : FormalParameter → Puts
parameter_pieces p rest = attributed_pieces one_space p.attributes p.ident p.ty rest

-- what a function returns, after its arrow, if it is there
abbrev pub result_pieces : Attributes → Option TypeExpression → Puts
result_pieces attributes None rest = rest
result_pieces attributes (Some t) rest = sign (codes "->") SymArrow
    (space ∷ attributes_pieces one_space attributes (type_pieces t (space ∷ rest)))

-- a function
abbrev pub function_pieces : Function → Puts
function_pieces f rest =
    sign (codes "fn") KwFn
    (space ∷ name f.ident (sign (codes "(") SymParenLeft (list_pieces parameter_pieces f.parameters
    (sign (codes ")") SymParenRight
    (space ∷ result_pieces f.return_attributes f.return_type (compound_pieces 0 f.body rest))))))

-- what is after the attributes of a declaration; an empty one is its `;`
abbrev pub unattributed_declaration_pieces : UnattributedDeclaration → Puts
unattributed_declaration_pieces void rest = sign (codes ";") SymSemicolon rest
unattributed_declaration_pieces (declaration d) rest = declaration_pieces d (sign (codes ";") SymSemicolon rest)
unattributed_declaration_pieces (type_alias a) rest = sign (codes "alias") KwAlias (space ∷ name a.ident
    (space ∷ sign (codes "=") SymEqual (space ∷ type_pieces a.ty (sign (codes ";") SymSemicolon rest))))
unattributed_declaration_pieces (structure s) rest =
    sign (codes "struct") KwStruct (space ∷ name s.ident (space ∷ sign (codes "{") SymBraceLeft
    (line 0 (members_pieces s.members (line 0 (sign (codes "}") SymBraceRight rest))))))
unattributed_declaration_pieces (function f) rest = function_pieces f rest
unattributed_declaration_pieces (const_assert c) rest = assert_pieces c (sign (codes ";") SymSemicolon rest)

-- a declaration
abbrev pub global_declaration_pieces : GlobalDeclaration → Puts
global_declaration_pieces d rest = attributes_pieces (line 0) d.attributes (unattributed_declaration_pieces d.node rest)

-- two line ends
abbrev pub two_lines : Puts
two_lines rest = line 0 (line 0 rest)

-- the declarations that are not empty, the first one after what is given and the others after an
-- empty line
abbrev pub declarations_pieces : Puts → List (Spanned GlobalDeclaration) → Puts
declarations_pieces start [] rest = rest
declarations_pieces start (d ∷ ds) rest = cond (is_void d.node) (declarations_pieces start ds rest)
    (start (global_declaration_pieces d.node (declarations_pieces two_lines ds rest)))

-- further directives, each on a line of its own
abbrev pub further_directives_pieces : List GlobalDirective → Puts
further_directives_pieces [] rest = rest
further_directives_pieces (d ∷ ds) rest = line 0 (directive_pieces d (further_directives_pieces ds rest))

-- directives, and an empty line after them if there are any
abbrev pub directives_pieces : List GlobalDirective → Puts
directives_pieces [] rest = rest
directives_pieces (d ∷ ds) rest = directive_pieces d (further_directives_pieces ds (two_lines rest))

-- nothing
abbrev pub nothing_before : Puts
nothing_before rest = rest

-- a module
abbrev pub unit_pieces : TranslationUnit → List Piece
unit_pieces u = directives_pieces u.global_directives
    (declarations_pieces nothing_before u.global_declarations (line 0 []))

-- ---- they print the trees

further_names_print : {n : ℕ} (texts : List (List ℕ)) → Prints n (flat_map (λ x. codes ", " ++ x) texts)
    (further_pieces name texts) (further_tokens word_token texts)
further_names_print [] = none_prints
further_names_print (text ∷ texts) = (comma_prints before name_prints text) before further_names_print texts

names_print : {n : ℕ} (texts : List (List ℕ))
    → Prints n (joined (codes ", ") texts) (list_pieces name texts) (list_tokens word_token texts)
names_print [] = none_prints
names_print (text ∷ texts) = name_prints text before further_names_print texts

unattributed_directive_prints : {n : ℕ} (d : UnattributedDirective)
    → Prints n (print_unattributed_directive d) (unattributed_directive_pieces d) (unattributed_directive_tokens d)
unattributed_directive_prints (diagnostic d) =
    (word_prints before space_prints before word_prints) before name_prints (severity_text d.severity)
    before comma_prints before rule_prints d.rule_name before (word_prints before word_prints)
unattributed_directive_prints (enable d) =
    (word_prints before space_prints) before names_print d.extensions before word_prints
unattributed_directive_prints (requires d) =
    (word_prints before space_prints) before names_print d.extensions before word_prints

directive_prints : (d : GlobalDirective) → Prints 0 (print_directive d) (directive_pieces d) (directive_tokens d)
directive_prints d = attributes_print (line_prints 0) d.attributes before unattributed_directive_prints d.node

attributed_prints : {n : ℕ} {end : List ℕ} {put : Puts} → Prints n end put (λ rest. rest)
    → (a : Attributes) (ident : List ℕ) (ty : TypeExpression)
    → Prints n (print_attributes end a ++ ident ++ codes ": " ++ print_type ty)
    (attributed_pieces put a ident ty) (attributed_tokens a ident ty)
attributed_prints last a ident ty = attributes_print last a before name_prints ident before
    (word_prints before space_prints) before type_prints ty

member_prints : (m : Spanned StructMember) → Prints 1 (print_member m.node) (member_pieces m) (member_tokens m)
member_prints m = attributed_prints (line_prints 1) m.node.attributes m.node.ident m.node.ty

further_members_print : (ms : List (Spanned StructMember))
    → Prints 1 (flat_map (λ x. codes ",\n" ++ x) (map (λ (m : Spanned StructMember). print_member m.node) ms))
    (further_members_pieces ms) (further_tokens member_tokens ms)
further_members_print [] = none_prints
further_members_print (m ∷ ms) =
    ((word_prints before line_prints 1) before member_prints m) before further_members_print ms

members_print : (ms : List (Spanned StructMember))
    → Prints 0 (indented (joined (codes ",\n") (map (λ (m : Spanned StructMember). print_member m.node) ms)))
    (members_pieces ms) (list_tokens member_tokens ms)
members_print [] = none_prints
members_print (m ∷ ms) = indented_prints (left_filled (print_member m.node) _ (member_filled m.node))
    (member_prints m before further_members_print ms)

parameter_prints : {n : ℕ} (p : FormalParameter)
    → Prints n (print_parameter p) (parameter_pieces p) (parameter_tokens p)
parameter_prints p = attributed_prints space_prints p.attributes p.ident p.ty

result_prints : {n : ℕ} (a : Attributes) (o : Option TypeExpression)
    → Prints n (print_result a o) (result_pieces a o) (result_tokens a o)
result_prints a None = none_prints
result_prints a (Some t) = (word_prints before space_prints) before attributes_print space_prints a
    before type_prints t before space_prints

function_prints : (f : Function) → Prints 0 (print_function f) (function_pieces f) (function_tokens f)
function_prints f =
    (word_prints before space_prints) before name_prints f.ident before word_prints before
    list_prints parameter_prints f.parameters
    before (word_prints before space_prints) before result_prints f.return_attributes f.return_type
    before compound_prints f.body

unattributed_declaration_prints : (d : UnattributedDeclaration)
    → Prints 0 (print_unattributed_declaration d) (unattributed_declaration_pieces d)
    (unattributed_declaration_tokens d)
unattributed_declaration_prints void = word_prints
unattributed_declaration_prints (declaration d) = declaration_prints d before word_prints
unattributed_declaration_prints (type_alias a) =
    (word_prints before space_prints) before name_prints a.ident before
    (space_prints before word_prints before space_prints) before type_prints a.ty before word_prints
unattributed_declaration_prints (structure s) =
    (word_prints before space_prints) before name_prints s.ident before
    (space_prints before word_prints before line_prints 0) before members_print s.members before
    (line_prints 0 before word_prints)
unattributed_declaration_prints (function f) = function_prints f
unattributed_declaration_prints (const_assert c) = assert_prints c before word_prints

global_declaration_prints : (d : GlobalDeclaration)
    → Prints 0 (print_global_declaration d) (global_declaration_pieces d) (global_declaration_tokens d)
global_declaration_prints d =
    attributes_print (line_prints 0) d.attributes before unattributed_declaration_prints d.node

-- declarations in a module
one_further : (b : Bool) (d : GlobalDeclaration) (ds : List (Spanned GlobalDeclaration))
    → Prints 0 (flat_map (λ x. codes "\n\n" ++ x) (declaration_texts ds))
    (declarations_pieces two_lines ds) (all_tokens kept_declaration_tokens ds)
    → Prints 0 (flat_map (λ x. codes "\n\n" ++ x)
    (cond b (declaration_texts ds) (print_global_declaration d ∷ declaration_texts ds)))
    (λ rest. cond b (declarations_pieces two_lines ds rest)
    (two_lines (global_declaration_pieces d (declarations_pieces two_lines ds rest))))
    (λ rest. cond b (all_tokens kept_declaration_tokens ds rest)
    (global_declaration_tokens d (all_tokens kept_declaration_tokens ds rest)))
one_further true d ds more = more
one_further false d ds more = ((line_prints 0 before line_prints 0) before global_declaration_prints d) before more

further_declarations_print : (ds : List (Spanned GlobalDeclaration))
    → Prints 0 (flat_map (λ x. codes "\n\n" ++ x) (declaration_texts ds))
    (declarations_pieces two_lines ds) (all_tokens kept_declaration_tokens ds)
further_declarations_print [] = none_prints
further_declarations_print (d ∷ ds) = one_further (is_void d.node) d.node ds (further_declarations_print ds)

one_first : (b : Bool) (d : GlobalDeclaration) (ds : List (Spanned GlobalDeclaration))
    → Prints 0 (joined (codes "\n\n") (declaration_texts ds))
    (declarations_pieces nothing_before ds) (all_tokens kept_declaration_tokens ds)
    → Prints 0 (joined (codes "\n\n")
    (cond b (declaration_texts ds) (print_global_declaration d ∷ declaration_texts ds)))
    (λ rest. cond b (declarations_pieces nothing_before ds rest)
    (global_declaration_pieces d (declarations_pieces two_lines ds rest)))
    (λ rest. cond b (all_tokens kept_declaration_tokens ds rest)
    (global_declaration_tokens d (all_tokens kept_declaration_tokens ds rest)))
one_first true d ds more = more
one_first false d ds more = global_declaration_prints d before further_declarations_print ds

declarations_print : (ds : List (Spanned GlobalDeclaration))
    → Prints 0 (joined (codes "\n\n") (declaration_texts ds))
    (declarations_pieces nothing_before ds) (all_tokens kept_declaration_tokens ds)
declarations_print [] = none_prints
declarations_print (d ∷ ds) = one_first (is_void d.node) d.node ds (declarations_print ds)

-- directives
further_directives_print : (ds : List GlobalDirective) → Prints 0 (flat_map (λ x. codes "\n" ++ x)
    (map print_directive ds)) (further_directives_pieces ds) (all_tokens directive_tokens ds)
further_directives_print [] = none_prints
further_directives_print (d ∷ ds) = (line_prints 0 before directive_prints d) before further_directives_print ds

directives_print : (ds : List GlobalDirective)
    → Prints 0 (print_directives ds) (directives_pieces ds) (all_tokens directive_tokens ds)
directives_print [] = none_prints
directives_print (d ∷ ds) = (directive_prints d before further_directives_print ds) before
    (line_prints 0 before line_prints 0)

unit_prints : (u : TranslationUnit) → Prints 0 (print_unit u) (λ rest. directives_pieces u.global_directives
    (declarations_pieces nothing_before u.global_declarations (line 0 rest))) (unit_tokens u)
unit_prints u = directives_print u.global_directives before declarations_print u.global_declarations
    before line_prints 0

-- the bytes of the pieces that fit are the printed text
pub unit_bytes : (u : TranslationUnit) → Fits (unit_pieces u) → bytes_of (unit_pieces u) ≡ print_unit u
unit_bytes u fits = (prints.bytes [] fits).0 ∙ append-nil (print_unit u) where
  prints : Prints 0 (print_unit u) (λ rest. directives_pieces u.global_directives
      (declarations_pieces nothing_before u.global_declarations (line 0 rest))) (unit_tokens u)
  prints = unit_prints u

-- and their tokens those that are written from the tree
pub unit_kinds : (u : TranslationUnit) → kinds (unit_pieces u) ≡ canonical u
unit_kinds u = prints.tokens [] where
  prints : Prints 0 (print_unit u) (λ rest. directives_pieces u.global_directives
      (declarations_pieces nothing_before u.global_declarations (line 0 rest))) (unit_tokens u)
  prints = unit_prints u
