-- Parts of the rules of clauses, declarations and directives derive what is sound.
use Rattle.std.proofs.Common.{ℕ, List, Option, Some, None}
use Rattle.grammar.specs.Tokens.{Token}
use Rattle.grammar.specs.Grammar.{Grammar.symbol}
use Rattle.grammar.specs.Notation.{one_token, ◌▹◌, ◌◃◌, ◌gives◌, ◌makes◌, optional}
use Rattle.wgsl_model.specs.Tokens.ClassTable.{SymArrow, SymParenLeft, SymSemicolon, KwBreak, KwConstAssert, KwDiagnostic, KwIf, KwVar}
use Rattle.wgsl_model.specs.Trees.Spanned.{Spanned, spanned}
use Rattle.wgsl_model.specs.Trees.Expressions.{TypeExpression}
use Rattle.wgsl_model.specs.Trees.Attributes.{Attributes}
use Rattle.wgsl_model.specs.Trees.Attributed.{with_attributes, Attributed}
use Rattle.wgsl_model.specs.Trees.Statements.{CompoundStatement, CaseSelector, BreakIfStatement, ConstAssert, assert_of, clause_of, break_if_of, continuing_statement_of}
use Rattle.wgsl_model.specs.Trees.Units.{GlobalDeclaration, UnattributedDeclaration, FormalParameter, UnattributedDirective}
use Rattle.wgsl_model.specs.Grammar.TokenValues.{text_of}
use Rattle.wgsl_model.specs.Grammar.Checks.{var_fault, severity_fault}
use Rattle.wgsl_model.specs.Grammar.StatementParts.{break_if, attributed}
use Rattle.wgsl_model.specs.Grammar.UnitParts.{return_part, function_of, assert_declaration}
use Rattle.wgsl_model.specs.Grammar.Symbols.{ident, type_specifier, template_list, expression, compound_statement, const_assert, var_template, diagnostic_severity, Rule, Dialect.parsed}
use Rattle.wgsl_model.specs.Grammar.Written.{written}
use Rattle.wgsl_theory_printed.proofs.Spelling.Ends.{IsNameText}
use Rattle.wgsl_theory_printed.proofs.Fits.SoundExpressions.{IsSoundNode, IsSoundType}
use Rattle.wgsl_theory_printed.proofs.Fits.FittingAttributes.{IfSome, Every, AreSoundAttributes}
use Rattle.wgsl_theory_printed.proofs.Fits.FittingStatements.{IsSoundSelector, IsSoundBreakIf}
use Rattle.wgsl_theory_printed.proofs.Fits.FittingNodes.{IsSoundClause, IsSoundContinuing, IsSoundCompound}
use Rattle.wgsl_theory_printed.proofs.Fits.FittingUnits.{IsSoundDirective, IsSoundParameter, IsSoundUnattributedDeclaration, IsSoundGlobal, IsSoundUnattributedDirective}
use Rattle.wgsl_theory_reread.proofs.Gives.{symbol_sound, then_sound, gives_sound, makes_sound, check_sound, weaker_sound, anything, sign_before, sign_after}
use Rattle.wgsl_theory_printed.proofs.Sound.SoundRules.{Sound, Gives, optional_sound}
use Rattle.wgsl_theory_printed.proofs.Sound.DerivedSound.{attributes_give}

-- ---- statements

-- what a clause selects, and its block
abbrev pub IsSoundCase : List CaseSelector × CompoundStatement → Type 0
IsSoundCase p = Every IsSoundSelector p.0 × IsSoundCompound p.1

pub break_if_gives : Gives (break_if parsed) IsSoundBreakIf
break_if_gives = gives_sound (then_sound attributes_give (gives_sound (sign_before KwBreak
    (sign_before KwIf (sign_after SymSemicolon (symbol_sound expression)))) break_if_of
    (λ (b : BreakIfStatement). IsSoundNode b.expression) (λ e h. h)))
    (λ p. with_attributes p.0 p.1) IsSoundBreakIf (λ p h. h)

pub clause_gives : {g : Rule (List CaseSelector × CompoundStatement)} → Gives g IsSoundCase
    → Gives (attributed clause_of g) IsSoundClause
clause_gives G = gives_sound (then_sound attributes_give G) (λ p. clause_of p.0 p.1) IsSoundClause
    (λ p h. (h.0, h.1.0, h.1.1))

-- a sign that may be left out
pub no_sign_gives : (c : ℕ) → Gives (optional (one_token c)) (IfSome (λ (t : Token). Unit {0}))
no_sign_gives c = optional_sound (anything (one_token c))

-- the body of a `continuing`, and its `break if`
abbrev pub IsSoundBody : CompoundStatement × Option (Attributed BreakIfStatement) → Type 0
IsSoundBody p = IsSoundCompound p.0 × IfSome IsSoundBreakIf p.1

pub continuing_gives : {g : Rule (CompoundStatement × Option (Attributed BreakIfStatement))}
    → Gives g IsSoundBody → Gives (attributed continuing_statement_of g) IsSoundContinuing
continuing_gives G = gives_sound (then_sound attributes_give G)
    (λ p. continuing_statement_of p.0 p.1) IsSoundContinuing (λ p h. (h.0, h.1.0, h.1.1))

pub assert_gives : Gives (KwConstAssert ▹ symbol expression gives assert_of)
    (λ (c : ConstAssert). IsSoundNode c.expression)
assert_gives = gives_sound (sign_before KwConstAssert (symbol_sound expression)) assert_of
    (λ (c : ConstAssert). IsSoundNode c.expression) (λ e h. h)

-- ---- declarations

pub asserted_gives : Gives (symbol const_assert ◃ SymSemicolon gives assert_declaration) IsSoundGlobal
asserted_gives = gives_sound (sign_after SymSemicolon (symbol_sound const_assert))
    assert_declaration IsSoundGlobal (λ c h. h)

pub placed_gives : {g : Rule GlobalDeclaration} → Gives g IsSoundGlobal
    → Gives (g makes spanned) (λ (d : Spanned GlobalDeclaration). IsSoundGlobal d.node)
placed_gives G = makes_sound G spanned (λ (d : Spanned GlobalDeclaration). IsSoundGlobal d.node) (λ d s h. h)

pub var_template_gives : Gives (written var_template) (Sound var_template)
var_template_gives = check_sound (weaker_sound (sign_before KwVar
    (optional_sound (symbol_sound template_list))) (Sound var_template) (λ v h. tt)) var_fault

pub declaration_gives : {g : Rule UnattributedDeclaration} → Gives g IsSoundUnattributedDeclaration
    → Gives (attributed with_attributes g) IsSoundGlobal
declaration_gives G = gives_sound (then_sound attributes_give G) (λ p. with_attributes p.0 p.1) IsSoundGlobal (λ p h. h)

pub return_part_gives : Gives return_part (λ p. AreSoundAttributes p.0 × IsSoundType p.1)
return_part_gives = sign_before SymArrow (then_sound attributes_give (symbol_sound type_specifier))

pub function_sound : (t : Token) (ps : List FormalParameter) (o : Option (Attributes × TypeExpression))
    (b : CompoundStatement) → IsNameText (text_of t) → Every IsSoundParameter ps
    → IfSome (λ (p : Attributes × TypeExpression). AreSoundAttributes p.0 × IsSoundType p.1) o
    → Sound compound_statement b → IsSoundUnattributedDeclaration (function_of t ps o b)
function_sound t ps None b n s r c = (n, s, tt, tt, c)
function_sound t ps (Some p) b n s r c = (n, s, r.0, r.1, c)

-- ---- directives and modules

pub diagnostic_severity_gives : Gives (written diagnostic_severity) (Sound diagnostic_severity)
diagnostic_severity_gives =
    check_sound (weaker_sound (sign_before KwDiagnostic (sign_before SymParenLeft (symbol_sound ident)))
    (Sound diagnostic_severity) (λ t h. tt)) (λ t span. severity_fault t)

-- a directive after its attributes
pub directive_gives : {g : Rule UnattributedDirective} → Gives g IsSoundUnattributedDirective
    → Gives (attributed with_attributes g) IsSoundDirective
directive_gives G = gives_sound (then_sound attributes_give G)
    (λ p. with_attributes p.0 p.1) IsSoundDirective (λ p h. h)
