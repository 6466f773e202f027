-- Modules whose names and literals are spelled as they are printed: their pieces fit, and the
-- printed text is read along the tokens that are written from the tree.
use Rattle.std.proofs.Common.{ℕ, refl, List, [], ◌∷◌, Option, Some, None}
use Rattle.std.specs.Prelude.{codes}
use Rattle.std.specs.Str.{IsUtf8, chars}
use Rattle.wgsl_model.specs.Tokens.ClassTable.{SymArrow, SymBraceRight, SymColon, SymParenRight, SymSemicolon}
use Rattle.wgsl_model.specs.Trees.NamedValues.{severity_text}
use Rattle.wgsl_model.specs.Trees.Spanned.{Spanned}
use Rattle.wgsl_model.specs.Trees.Expressions.{TypeExpression}
use Rattle.wgsl_model.specs.Trees.Attributes.{Attributes}
use Rattle.wgsl_model.specs.Trees.Units.{GlobalDirective, UnattributedDirective, diagnostic, enable, requires, StructMember, FormalParameter, Function, GlobalDeclaration, UnattributedDeclaration, void, declaration, type_alias, structure, function, const_assert, TranslationUnit}
use Rattle.wgsl_model.specs.Printed.Units.{is_void, print_unit}
use Rattle.wgsl_theory_reread.specs.CanonicalUnits.{canonical}
use Rattle.wgsl_theory_printed.proofs.Spelling.Pieces.{Piece, space, render, Fits}
use Rattle.wgsl_theory_printed.proofs.TreePieces.Printing.{Puts, line}
use Rattle.wgsl_theory_templates.proofs.Lexed.LexedAlong.{Along}
use Rattle.wgsl_theory_printed.proofs.Spelling.Ends.{EndsName, IsNameText}
use Rattle.wgsl_theory_printed.proofs.Fits.FittingWords.{name_fits, sign_fits}
use Rattle.wgsl_theory_printed.proofs.Fits.SoundExpressions.{IsSoundNode, IsSoundType, Closed}
use Rattle.wgsl_theory_printed.proofs.Fits.FittingSigns.{as_text, left_paren_fits, right_paren_fits, comma_fits}
use Rattle.wgsl_theory_printed.proofs.Fits.FittingExpressions.{closed_by_paren, closed_by_comma, ends_at_paren}
use Rattle.wgsl_theory_printed.proofs.Fits.WrittenWords.{severity_name, keyword_fits}
use Rattle.wgsl_theory_printed.proofs.Fits.FittingAttributes.{IfSome, Every, IsSoundRule, AreSoundAttributes, list_fits, closed_type_fits, plain_name_fits, rule_fits, attributes_fit}
use Rattle.wgsl_theory_printed.proofs.Fits.FittingStatements.{IsSoundDeclaration, line_fits, closed_line, attribute_lines_fit, left_brace_fits, right_brace_fits, semicolon_fits, colon_fits, equal_fits, closed_by_semicolon, declaration_fits, assert_fits, one_fits}
use Rattle.wgsl_theory_printed.proofs.Fits.FittingNodes.{IsSoundCompound, compound_fits}
use Rattle.wgsl_theory_printed.proofs.TreePieces.PiecesOfExpressions.{sign, name, comma, type_pieces}
use Rattle.wgsl_theory_printed.proofs.TreePieces.PiecesOfAttributes.{list_pieces, rule_pieces}
use Rattle.wgsl_theory_printed.proofs.TreePieces.PiecesNodes.{compound_pieces}
use Rattle.wgsl_theory_printed.proofs.TreePieces.PiecesOfUnits.{unattributed_directive_pieces, directive_pieces, member_pieces, further_members_pieces, members_pieces, one_space, parameter_pieces, result_pieces, function_pieces, unattributed_declaration_pieces, global_declaration_pieces, two_lines, declarations_pieces, further_directives_pieces, directives_pieces, nothing_before, unit_pieces}
use Rattle.wgsl_theory_printed.proofs.TreePieces.PrintedAlong.{printed_utf8, printed_along}

-- ---- modules that are so spelled

abbrev pub IsSoundUnattributedDirective : UnattributedDirective → Type 0
IsSoundUnattributedDirective (diagnostic d) = IsSoundRule [] d.rule_name
IsSoundUnattributedDirective (enable d) = Every IsNameText d.extensions
IsSoundUnattributedDirective (requires d) = Every IsNameText d.extensions

abbrev pub IsSoundDirective : GlobalDirective → Type 0
IsSoundDirective d = AreSoundAttributes d.attributes × IsSoundUnattributedDirective d.node

abbrev pub IsSoundMember : Spanned StructMember → Type 0
IsSoundMember m = AreSoundAttributes m.node.attributes × IsNameText m.node.ident × IsSoundType m.node.ty

abbrev pub IsSoundParameter : FormalParameter → Type 0
IsSoundParameter p = AreSoundAttributes p.attributes × IsNameText p.ident × IsSoundType p.ty

abbrev pub IsSoundFunction : Function → Type 0
IsSoundFunction f = IsNameText f.ident × Every IsSoundParameter f.parameters
    × AreSoundAttributes f.return_attributes × IfSome IsSoundType f.return_type × IsSoundCompound f.body

abbrev pub IsSoundUnattributedDeclaration : UnattributedDeclaration → Type 0
IsSoundUnattributedDeclaration void = Unit {0}
IsSoundUnattributedDeclaration (declaration d) = IsSoundDeclaration d
IsSoundUnattributedDeclaration (type_alias a) = IsNameText a.ident × IsSoundType a.ty
IsSoundUnattributedDeclaration (structure s) = IsNameText s.ident × Every IsSoundMember s.members
IsSoundUnattributedDeclaration (function f) = IsSoundFunction f
IsSoundUnattributedDeclaration (const_assert c) = IsSoundNode c.expression

abbrev pub IsSoundGlobal : GlobalDeclaration → Type 0
IsSoundGlobal d = AreSoundAttributes d.attributes × IsSoundUnattributedDeclaration d.node

abbrev pub IsSoundUnit : TranslationUnit → Type 0
IsSoundUnit u = Every IsSoundDirective u.global_directives
    × Every (λ (d : Spanned GlobalDeclaration). IsSoundGlobal d.node) u.global_declarations

-- ---- their pieces

unattributed_directive_fits : (d : UnattributedDirective) (rest : List Piece)
    → IsSoundUnattributedDirective d → Fits rest → Fits (unattributed_directive_pieces d rest)
unattributed_directive_fits (diagnostic d) rest s f =
    let last = sign (codes ";") SymSemicolon rest in
    let more = rule_pieces d.rule_name (sign (codes ")") SymParenRight last) in (
      keyword_fits _ refl refl,
      (
        left_paren_fits _,
        plain_name_fits (severity_text d.severity) (comma more) (severity_name d.severity)
            (closed_by_comma more) (
              comma_fits _,
              rule_fits d.rule_name (sign (codes ")") SymParenRight last) s (closed_by_paren last)
                  (right_paren_fits _, (semicolon_fits _, f)),
            ),
      ),
    )
unattributed_directive_fits (enable d) rest s f = (
  keyword_fits _ refl refl,
  list_fits name IsNameText plain_name_fits d.extensions (sign (codes ";") SymSemicolon rest) s
      (closed_by_semicolon rest) (semicolon_fits _, f),
)
unattributed_directive_fits (requires d) rest s f = (
  keyword_fits _ refl refl,
  list_fits name IsNameText plain_name_fits d.extensions (sign (codes ";") SymSemicolon rest) s
      (closed_by_semicolon rest) (semicolon_fits _, f),
)

directive_fits : (d : GlobalDirective) (rest : List Piece) → IsSoundDirective d → Fits rest
    → Fits (directive_pieces d rest)
directive_fits d rest s f = attribute_lines_fit 0 d.attributes _ s.0 (unattributed_directive_fits d.node rest s.1 f)

-- attributes, a name and its type
attributed_fits : (ident : List ℕ) (ty : TypeExpression) (rest : List Piece) → IsNameText ident
    → IsSoundType ty → Closed (render rest) → Fits rest
    → Fits (name ident (sign (codes ":") SymColon (space ∷ type_pieces ty rest)))
attributed_fits ident ty rest n s c f = (
  name_fits ident _ n (as_text EndsName (codes ":") (32 ∷ render (type_pieces ty rest)) refl refl),
  (colon_fits _, closed_type_fits ty rest s c f),
)

member_fits : (m : Spanned StructMember) (rest : List Piece) → IsSoundMember m
    → Closed (render rest) → Fits rest → Fits (member_pieces m rest)
member_fits m rest s c f = attribute_lines_fit 1 m.node.attributes _ s.0
    (attributed_fits m.node.ident m.node.ty rest s.1 s.2 c f)

closed_members : (ms : List (Spanned StructMember)) (rest : List Piece) → Closed (render rest)
    → Closed (render (further_members_pieces ms rest))
closed_members [] rest c = c
closed_members (m ∷ ms) rest c = as_text Closed (codes ",")
    (render (line 1 (member_pieces m (further_members_pieces ms rest)))) refl refl

further_members_fit : (ms : List (Spanned StructMember)) (rest : List Piece) → Every IsSoundMember ms
    → Closed (render rest) → Fits rest → Fits (further_members_pieces ms rest)
further_members_fit [] rest s c f = f
further_members_fit (m ∷ ms) rest s c f = (
  comma_fits _,
  line_fits 1 (member_pieces m (further_members_pieces ms rest))
      (member_fits m (further_members_pieces ms rest) s.0 (closed_members ms rest c)
      (further_members_fit ms rest s.1 c f)),
)

members_fit : (ms : List (Spanned StructMember)) (rest : List Piece) → Every IsSoundMember ms
    → Closed (render rest) → Fits rest → Fits (members_pieces ms rest)
members_fit [] rest s c f = f
members_fit (m ∷ ms) rest s c f = member_fits m (further_members_pieces ms rest) s.0
    (closed_members ms rest c) (further_members_fit ms rest s.1 c f)

parameter_fits : (p : FormalParameter) (rest : List Piece) → IsSoundParameter p
    → Closed (render rest) → Fits rest → Fits (parameter_pieces p rest)
parameter_fits p rest s c f =
    let more : Fits (name p.ident (sign (codes ":") SymColon (space ∷ type_pieces p.ty rest))) =
    attributed_fits p.ident p.ty rest s.1 s.2 c f in
    attributes_fit one_space p.attributes
    (name p.ident (sign (codes ":") SymColon (space ∷ type_pieces p.ty rest))) s.0 refl more more

result_fits : (a : Attributes) (o : Option TypeExpression) (rest : List Piece)
    → AreSoundAttributes a → IfSome IsSoundType o → Fits rest → Fits (result_pieces a o rest)
result_fits a None rest s t f = f
result_fits a (Some t) rest s y f =
    let more : Fits (type_pieces t (space ∷ rest)) = closed_type_fits t (space ∷ rest) y refl f in (
      sign_fits 45 (62 ∷ []) SymArrow _ refl refl refl tt refl,
      attributes_fit one_space a (type_pieces t (space ∷ rest)) s refl more more,
    )

function_fits : (x : Function) (rest : List Piece) → IsSoundFunction x → Fits rest → Fits (function_pieces x rest)
function_fits x rest s f =
    let last = space ∷ result_pieces x.return_attributes x.return_type (compound_pieces 0 x.body rest) in (
      keyword_fits _ refl refl,
      (
        name_fits x.ident _ s.0
            (ends_at_paren (list_pieces parameter_pieces x.parameters (sign (codes ")") SymParenRight last))),
        (
          left_paren_fits _,
          list_fits parameter_pieces IsSoundParameter parameter_fits x.parameters
              (sign (codes ")") SymParenRight last) s.1 (closed_by_paren last) (
                right_paren_fits _,
                result_fits x.return_attributes x.return_type
                    (compound_pieces 0 x.body rest) s.2 s.3 (compound_fits 0 x.body rest s.4 f),
              ),
        ),
      ),
    )

unattributed_fits : (d : UnattributedDeclaration) (rest : List Piece)
    → IsSoundUnattributedDeclaration d → Fits rest → Fits (unattributed_declaration_pieces d rest)
unattributed_fits void rest s f = (semicolon_fits _, f)
unattributed_fits (declaration d) rest s f = declaration_fits d
    (sign (codes ";") SymSemicolon rest) s (closed_by_semicolon rest) (semicolon_fits _, f)
unattributed_fits (type_alias a) rest s f = (
  keyword_fits _ refl refl,
  (
    name_fits a.ident _ s.0 refl,
    (
      equal_fits _,
      closed_type_fits a.ty (sign (codes ";") SymSemicolon rest) s.1 (closed_by_semicolon rest)
          (semicolon_fits _, f),
    ),
  ),
)
unattributed_fits (structure x) rest s f =
    let last = sign (codes "}") SymBraceRight rest in (
      keyword_fits _ refl refl,
      (
        name_fits x.ident _ s.0 refl,
        (
          left_brace_fits _,
          line_fits 0 (members_pieces x.members (line 0 last)) (members_fit x.members
              (line 0 last) s.1 (closed_line 0 last) (line_fits 0 last (right_brace_fits _, f))),
        ),
      ),
    )
unattributed_fits (function x) rest s f = function_fits x rest s f
unattributed_fits (const_assert x) rest s f = assert_fits x (sign (codes ";") SymSemicolon rest) s
    (closed_by_semicolon rest) (semicolon_fits _, f)

global_fits : (d : GlobalDeclaration) (rest : List Piece) → IsSoundGlobal d → Fits rest
    → Fits (global_declaration_pieces d rest)
global_fits d rest s f = attribute_lines_fit 0 d.attributes _ s.0 (unattributed_fits d.node rest s.1 f)

declarations_fit : (start : Puts) → ((rest : List Piece) → Fits rest → Fits (start rest))
    → (ds : List (Spanned GlobalDeclaration)) (rest : List Piece)
    → Every (λ (d : Spanned GlobalDeclaration). IsSoundGlobal d.node) ds → Fits rest
    → Fits (declarations_pieces start ds rest)
declarations_fit start p [] rest s f = f
declarations_fit start p (d ∷ ds) rest s f =
    let more = declarations_pieces two_lines ds rest in
    one_fits (is_void d.node) (declarations_pieces start ds rest)
    (start (global_declaration_pieces d.node more)) (declarations_fit start p ds rest s.1 f)
    (p (global_declaration_pieces d.node more)
    (global_fits d.node more s.0 (declarations_fit two_lines (λ r g. g) ds rest s.1 f)))

further_directives_fit : (ds : List GlobalDirective) (rest : List Piece) → Every IsSoundDirective ds
    → Fits rest → Fits (further_directives_pieces ds rest)
further_directives_fit [] rest s f = f
further_directives_fit (d ∷ ds) rest s f = directive_fits d (further_directives_pieces ds rest) s.0
    (further_directives_fit ds rest s.1 f)

directives_fit : (ds : List GlobalDirective) (rest : List Piece) → Every IsSoundDirective ds
    → Fits rest → Fits (directives_pieces ds rest)
directives_fit [] rest s f = f
directives_fit (d ∷ ds) rest s f = directive_fits d (further_directives_pieces ds (two_lines rest))
    s.0 (further_directives_fit ds (two_lines rest) s.1 f)

unit_fits : (u : TranslationUnit) → IsSoundUnit u → Fits (unit_pieces u)
unit_fits u s = directives_fit u.global_directives _ s.0
    (declarations_fit nothing_before (λ r g. g) u.global_declarations (line 0 []) s.1 tt)

-- the printed text of a sound module
pub sound_utf8 : (u : TranslationUnit) → IsSoundUnit u → IsUtf8 (print_unit u)
sound_utf8 u s = printed_utf8 u (unit_fits u s)

pub sound_along : (u : TranslationUnit) → IsSoundUnit u → Along (canonical u) (chars (print_unit u))
sound_along u s = printed_along u (unit_fits u s)
