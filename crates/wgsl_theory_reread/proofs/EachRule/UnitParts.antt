-- How the parts that the rules of declarations and directives share are read again: symbols,
-- attributes, names and functions.
use Rattle.std.proofs.Common.{◌≡◌, ℕ, List, [], ◌∷◌, ◌++◌, map, Option, Some, None, refl, sym, ap, ◌∙◌}
use Rattle.std.specs.Prelude.{codes}
use Rattle.std.specs.Option.{option_map}
use Rattle.grammar.specs.Tokens.{Token}
use Rattle.grammar.specs.Grammar.{Grammar.symbol}
use Rattle.grammar.specs.Notation.{optional, list}
use Rattle.wgsl_model.specs.Tokens.ClassTable.{SymArrow, SymColon, SymComma, SymParenLeft, SymParenRight, SymPeriod, KwFn}
use Rattle.wgsl_model.specs.Tokens.Kind.{Kind, plain}
use Rattle.wgsl_model.specs.Tokens.Raw.{kind_of_word}
use Rattle.wgsl_model.specs.Trees.Expressions.{TypeExpression}
use Rattle.wgsl_model.specs.Trees.Attributes.{Attributes}
use Rattle.wgsl_model.specs.Trees.Statements.{CompoundStatement}
use Rattle.wgsl_model.specs.Trees.Units.{FormalParameter, Function}
use Rattle.wgsl_model.specs.Grammar.TokenValues.{text_of}
use Rattle.wgsl_model.specs.Grammar.UnitParts.{attributed_ident, return_part, function_parts, texts_of, rule_of}
use Rattle.wgsl_model.specs.Trees.WithoutSpans.{bare_type, bare_attributes}
use Rattle.wgsl_model.specs.Trees.StatementsWithoutSpans.{bare_compound, bare_parameter, bare_function}
use Rattle.wgsl_model.specs.Trees.EmptyItems.{full_compound, full_function}
use Rattle.wgsl_model.specs.Grammar.Symbols.{ident, type_specifier}
use Rattle.wgsl_theory_reread.specs.CanonicalExpressions.{Writer, optional_tokens, further_tokens, list_tokens, word_token, type_tokens}
use Rattle.wgsl_theory_reread.specs.CanonicalAttributes.{rule_tokens, attributes_tokens}
use Rattle.wgsl_theory_reread.specs.CanonicalStatements.{compound_tokens}
use Rattle.wgsl_theory_reread.specs.CanonicalUnits.{attributed_tokens, parameter_tokens, function_tokens}
use Rattle.wgsl_theory_reread.proofs.Words.{NoPeriod}
use Rattle.wgsl_theory_reread.proofs.Again.{write}
use Rattle.wgsl_theory_reread.proofs.Names.RuleNames.{word_tokens, pair_tokens}
use Rattle.wgsl_theory_reread.proofs.Ways.{Reads, then_reads, equal_reads, before_reads, after_reads, optional_reads, list_reads}
use Rattle.wgsl_theory_reread.proofs.Rules.{AttributeReads, attributes_read, symbol_reads}

-- ---- attributes before a name
pub attributed_ident_reads : AttributeReads
    → Reads attributed_ident (λ p rest. attributed_tokens p.0 (text_of p.1.0) p.1.1 rest)
    (λ w v. (bare_attributes w.0 ≡ bare_attributes v.0)
    × ((text_of w.1.0 ≡ text_of v.1.0) × (bare_type w.1.1 ≡ bare_type v.1.1)))
attributed_ident_reads one = then_reads (attributes_read one)
    (then_reads (after_reads SymColon refl (symbol_reads ident)) (symbol_reads type_specifier))

-- ---- names in a list
further_written : (names : List Token) (rest : List Kind)
    → further_tokens word_token (texts_of names) rest ≡ further_tokens (write ident) names rest
further_written [] rest = refl
further_written (t ∷ names) rest = ap (λ z. plain SymComma ∷ (kind_of_word (text_of t) ∷ z))
    (further_written names rest)

pub names_written : (names : List Token) (rest : List Kind)
    → list_tokens word_token (texts_of names) rest ≡ list_tokens (write ident) names rest
names_written [] rest = refl
names_written (t ∷ names) rest = ap (λ z. kind_of_word (text_of t) ∷ z) (further_written names rest)

pub texts_mapped : (names : List Token) → texts_of names ≡ map text_of names
texts_mapped [] = refl
texts_mapped (t ∷ names) = ap (λ z. text_of t ∷ z) (texts_mapped names)

pub names_read : Reads (list SymComma (symbol ident))
    (λ names rest. list_tokens word_token (texts_of names) rest) (λ w v. texts_of w ≡ texts_of v)
names_read = equal_reads (list_reads (symbol_reads ident)) names_written
    (λ w v h. texts_mapped w ∙ h ∙ sym (texts_mapped v))

-- ---- functions
-- what a function returns, after its arrow
abbrev pub returned_tokens : Writer (Attributes × TypeExpression)
returned_tokens r rest = plain SymArrow ∷ attributes_tokens r.0 (type_tokens r.1 rest)

abbrev pub bare_returned : Attributes × TypeExpression → Attributes × TypeExpression
bare_returned r = (bare_attributes r.0, bare_type r.1)

pub returned_reads : AttributeReads → Reads (optional return_part) (optional_tokens returned_tokens)
    (λ w v. option_map bare_returned w ≡ option_map bare_returned v)
returned_reads one =
    optional_reads (equal_reads (before_reads SymArrow refl (then_reads (attributes_read one)
    (symbol_reads type_specifier))) (λ v rest. refl) (λ w v h. λ i. (h.0 i, h.1 i)))

-- a function, by its parts
pub function_written : (name : Token) (parameters : List FormalParameter)
    (returned : Option (Attributes × TypeExpression)) (block : CompoundStatement) (rest : List Kind)
    → function_tokens (function_parts name parameters returned block) rest
    ≡ plain KwFn ∷ (kind_of_word (text_of name) ∷ (plain SymParenLeft ∷ list_tokens parameter_tokens parameters
    (plain SymParenRight ∷ optional_tokens returned_tokens returned (compound_tokens block rest))))
function_written name parameters None block rest = refl
function_written name parameters (Some r) block rest = refl

-- a function with a name's text in place of its token
abbrev function_with : List ℕ → List FormalParameter → Option (Attributes × TypeExpression)
    → CompoundStatement → Function
function_with name parameters None block =
    record { ident = name; parameters = parameters; return_attributes = []; return_type = None; body = block }
function_with name parameters (Some r) block =
    record { ident = name; parameters = parameters; return_attributes = r.0; return_type = Some r.1; body = block }

function_bare : (name : Token) (parameters : List FormalParameter)
    (returned : Option (Attributes × TypeExpression)) (block : CompoundStatement)
    → bare_function (function_parts name parameters returned block)
    ≡ function_with (text_of name) (map bare_parameter parameters)
    (option_map bare_returned returned) (bare_compound block)
function_bare name parameters None block = refl
function_bare name parameters (Some r) block = refl

function_full : (name : Token) (parameters : List FormalParameter)
    (returned : Option (Attributes × TypeExpression)) (block : CompoundStatement)
    → full_function (function_parts name parameters returned block)
    ≡ function_parts name parameters returned (full_compound block)
function_full name parameters None block = refl
function_full name parameters (Some r) block = refl

-- the parts of a function
abbrev pub FunctionParts : Type 0
FunctionParts = Token × (List FormalParameter × (Option (Attributes × TypeExpression) × CompoundStatement))

abbrev pub function_in : FunctionParts → Function
function_in p = function_parts p.0 p.1.0 p.1.1.0 p.1.1.1

-- functions whose parts are the same
pub same_function : (w v : FunctionParts)
    → text_of w.0 ≡ text_of v.0 → map bare_parameter w.1.0 ≡ map bare_parameter v.1.0
    → option_map bare_returned w.1.1.0 ≡ option_map bare_returned v.1.1.0
    → bare_compound w.1.1.1 ≡ bare_compound (full_compound v.1.1.1)
    → bare_function (function_in w) ≡ bare_function (full_function (function_in v))
same_function w v name parameters returned block =
    function_bare w.0 w.1.0 w.1.1.0 w.1.1.1
    ∙ (λ i. function_with (name i) (parameters i) (returned i) (block i))
    ∙ sym (function_bare v.0 v.1.0 v.1.1.0 (full_compound v.1.1.1))
    ∙ sym (ap bare_function (function_full v.0 v.1.0 v.1.1.0 v.1.1.1))

-- ---- the name of a rule
-- `.` and a name
abbrev pub period_tokens : Writer Token
period_tokens t rest = plain SymPeriod ∷ (kind_of_word (text_of t) ∷ rest)

pub rule_written : (first : Token) (second : Option Token) (rest : List Kind)
    → NoPeriod (text_of first) → rule_tokens (rule_of first second) rest
    ≡ kind_of_word (text_of first) ∷ optional_tokens period_tokens second rest
rule_written first None rest h = word_tokens (text_of first) rest h
rule_written first (Some second) rest h = pair_tokens (text_of first) (text_of second) rest h

-- the name of a rule, by the texts of its names
abbrev rule_with : List ℕ → Option (List ℕ) → List ℕ
rule_with first None = first
rule_with first (Some second) = first ++ (codes "." ++ second)

rule_texts : (first : Token) (second : Option Token)
    → rule_of first second ≡ rule_with (text_of first) (option_map text_of second)
rule_texts first None = refl
rule_texts first (Some second) = refl

pub same_rule : (w v : Token) (x y : Option Token) → text_of w ≡ text_of v
    → option_map text_of x ≡ option_map text_of y → rule_of w x ≡ rule_of v y
same_rule w v x y h k = rule_texts w x ∙ (λ i. rule_with (h i) (k i)) ∙ sym (rule_texts v y)
