-- How parts of modules, and rules that RuleTerms leaves out, are read again.
use Rattle.std.proofs.Common.{◌≡◌, ℕ, Bool, true, false, List, [], ◌∷◌, ◌++◌, map, Option, refl, sym, ap, ap₂, subst, ◌∙◌}
use Rattle.std.specs.Prelude.{if◌then◌else◌}
use Rattle.std.specs.Option.{option_map}
use mathlib.Core.List.{append-nil}
use Rattle.grammar.specs.Tokens.{Token, Span}
use Rattle.grammar.specs.Grammar.{Grammar.empty, Grammar.symbol, Mode.checking, Chain, Chain.base, Chain.more, Means}
use Rattle.grammar.specs.Notation.{one_token, ◌then◌, ◌▹◌, ◌◃◌, ◌makes◌, optional, many}
use Rattle.wgsl_model.specs.Tokens.ClassTable.{SymComma, SymParenLeft, SymParenRight, SymPeriod, SymSemicolon, KwDiagnostic, KwFn}
use Rattle.wgsl_model.specs.Tokens.Kind.{Kind, plain}
use Rattle.wgsl_model.specs.Tokens.Raw.{kind_of_word}
use Rattle.wgsl_model.specs.Tokens.Words.{look_up}
use Rattle.wgsl_model.specs.Trees.NamedValues.{DiagnosticSeverity.error, severities, severity_text}
use Rattle.wgsl_model.specs.Trees.Spanned.{Spanned, spanned}
use Rattle.wgsl_model.specs.Trees.Attributed.{with_attributes}
use Rattle.wgsl_model.specs.Trees.Units as tree
use Rattle.wgsl_model.specs.Trees.Units.{GlobalDeclaration, UnattributedDeclaration, UnattributedDirective}
use Rattle.wgsl_model.specs.Printed.Units.{is_void}
use Rattle.wgsl_model.specs.Grammar.Checks.{given_or, severity_of}
use Rattle.wgsl_model.specs.Grammar.TokenValues.{text_of}
use Rattle.wgsl_model.specs.Grammar.StatementParts.{attributed}
use Rattle.wgsl_model.specs.Grammar.UnitParts.{diagnostic_of}
use Rattle.wgsl_model.specs.Trees.WithoutSpans.{no_span, bare_spanned}
use Rattle.wgsl_model.specs.Trees.StatementsWithoutSpans.{bare_parameter, bare_directive, bare_global_declaration, bare_unattributed_declaration}
use Rattle.wgsl_model.specs.Trees.EmptyItems.{full_declaration, full_declarations, full_unattributed_declaration}
use Rattle.wgsl_model.specs.Grammar.Symbols.{ident, formal_parameter, global_declaration, function_declaration, diagnostic_severity, global_directive, diagnostic_directive, unit, Rule, compound_statement}
use Rattle.wgsl_model.specs.Grammar.Written.{written}
use Rattle.wgsl_theory_reread.specs.CanonicalExpressions.{Writer, all_tokens, optional_tokens}
use Rattle.wgsl_theory_reread.specs.CanonicalUnits.{directive_tokens, unattributed_declaration_tokens, global_declaration_tokens, kept_declaration_tokens, unattributed_directive_tokens}
use Rattle.wgsl_theory_reread.proofs.Words.{NoPeriod, AllWords}
use Rattle.wgsl_theory_reread.proofs.Again.{D, Again, write, Same, Known, Found, Finds}
use Rattle.wgsl_theory_reread.proofs.Ways.{Outcome, Reads, found_in, known_reads, words_after, then_reads, gives_reads, makes_reads, before_reads, after_reads, none_reads, optional_reads, no_sign_reads, all_after, map_after, many_reads, list_or_none_reads}
use Rattle.wgsl_theory_reread.proofs.Rules.{AttributeReads, attributes_read, symbol_reads}
use Rattle.wgsl_theory_reread.proofs.Names.NamedWords.{severity_word}
use Rattle.wgsl_theory_reread.proofs.EachRule.UnitParts.{returned_reads, function_written, same_function, period_tokens, rule_written, same_rule}

-- ---- declarations after attributes
-- declarations that are the same, ignoring spans and empty items
abbrev pub SameDeclaration : GlobalDeclaration → GlobalDeclaration → Type 0
SameDeclaration w v = bare_global_declaration w ≡ bare_global_declaration (full_declaration v)

pub declaration_reads : AttributeReads → {g : Rule UnattributedDeclaration}
    → Reads g unattributed_declaration_tokens (λ w v. bare_unattributed_declaration w
    ≡ bare_unattributed_declaration (full_unattributed_declaration v))
    → Reads (attributed with_attributes g) global_declaration_tokens SameDeclaration
declaration_reads one G = gives_reads (then_reads (attributes_read one) G) (λ a rest. refl)
    (λ w a h. λ i. with_attributes (h.0 i) (h.1 i))

pub placed_declaration_reads : {g : Rule GlobalDeclaration} → Reads g global_declaration_tokens SameDeclaration
    → Reads (g makes spanned) (write global_declaration) (Same global_declaration)
placed_declaration_reads G = makes_reads {writes = global_declaration_tokens}
    {like = SameDeclaration} G (λ a span rest. refl) (λ w a s r h. h)

-- ---- declarations of types and functions
pub function_declaration_reads : AttributeReads
    → Reads (written function_declaration) (write function_declaration) (Same function_declaration)
function_declaration_reads one = declaration_reads one (gives_reads
    (before_reads KwFn refl (then_reads (symbol_reads ident) (before_reads SymParenLeft refl
    (then_reads (after_reads SymParenRight refl (list_or_none_reads {bare = bare_parameter} {kept = bare_parameter}
    (symbol_reads formal_parameter))) (then_reads (returned_reads one) (symbol_reads compound_statement))))))
    (λ a rest. function_written a.0 a.1.0 a.1.1.0 a.1.1.1 rest)
    (λ w a h. ap tree.function (same_function w a h.0 h.1.0 h.1.1.0 h.1.1.1)))

-- ---- directives
-- a directive after its attributes
pub directive_reads : AttributeReads → {g : Rule UnattributedDirective}
    → Reads g unattributed_directive_tokens (λ w v. w ≡ v)
    → Reads (attributed with_attributes g) directive_tokens (λ w v. bare_directive w ≡ bare_directive v)
directive_reads one G = gives_reads (then_reads (attributes_read one) G) (λ a rest. refl)
    (λ w a h. λ i. with_attributes (h.0 i) (h.1 i))

-- ---- `diagnostic`
-- a severity and the names of a rule, with a comma after them or none
abbrev pub DiagnosticParts : Type 0
DiagnosticParts = Token × (Token × (Option Token × Option Token))

abbrev pub diagnostic_parts : Rule DiagnosticParts
diagnostic_parts = symbol diagnostic_severity ◃ SymComma then symbol ident
    then optional (SymPeriod ▹ symbol ident)
    then optional (one_token SymComma) ◃ SymParenRight ◃ SymSemicolon

abbrev pub diagnostic_parts_tokens : Writer DiagnosticParts
diagnostic_parts_tokens p rest =
    plain KwDiagnostic
    ∷ (plain SymParenLeft ∷ (kind_of_word (text_of p.0) ∷ (plain SymComma ∷ (kind_of_word (text_of p.1.0)
    ∷ optional_tokens period_tokens p.1.1.0 (plain SymParenRight ∷ (plain SymSemicolon ∷ rest))))))

diagnostic_parts_read : Reads diagnostic_parts diagnostic_parts_tokens
    (λ w v. (text_of w.0 ≡ text_of v.0) × ((text_of w.1.0 ≡ text_of v.1.0)
    × ((option_map text_of w.1.1.0 ≡ option_map text_of v.1.1.0) × Unit {0})))
diagnostic_parts_read = then_reads (after_reads SymComma refl (symbol_reads diagnostic_severity))
    (then_reads (symbol_reads ident) (then_reads (optional_reads (before_reads SymPeriod refl (symbol_reads ident)))
    (after_reads SymSemicolon refl (after_reads SymParenRight refl no_sign_reads))))

-- the word of the severity names it, and the first name of the rule has no `.`
abbrev KnownParts : DiagnosticParts → Type 0
KnownParts p = Known diagnostic_severity p.0 × NoPeriod (text_of p.1.0)

known_parts : (p : DiagnosticParts) (xs ys : List Token)
    → Means checking Again diagnostic_parts p xs ys → AllWords xs → KnownParts p
known_parts p xs ys d words =
    let severity = d.1.2.1 words in
    let name = d.2.1 (words_after d.1.0.1 d.1.2.0 d.0 d.1.2.2.1 severity.0) in
    (subst (λ (z : Token). Known diagnostic_severity z) d.1.1 severity.1, name.1)

pub severity_written : (t : Token) → Known diagnostic_severity t → severity_text (severity_of t) ≡ text_of t
severity_written t known = ap (λ z. severity_text (given_or error z)) known.1
    ∙ severity_word (text_of t) known.0 known.1

diagnostic_tokens : (p : DiagnosticParts) → KnownParts p → (rest : List Kind)
    → unattributed_directive_tokens (diagnostic_of p.0 p.1.0 p.1.1.0) rest ≡ diagnostic_parts_tokens p rest
diagnostic_tokens p known rest =
    ap₂ (λ (word : List ℕ) (rule : List Kind). plain KwDiagnostic
    ∷ (plain SymParenLeft ∷ (kind_of_word word ∷ (plain SymComma ∷ rule)))) (severity_written p.0 known.0)
    (rule_written p.1.0 p.1.1.0 (plain SymParenRight ∷ (plain SymSemicolon ∷ rest)) known.1)

pub diagnostic_directive_reads : AttributeReads
    → Reads (written diagnostic_directive) (write diagnostic_directive) (Same diagnostic_directive)
diagnostic_directive_reads one = directive_reads one
    (known_reads {Fact = KnownParts} diagnostic_parts_read known_parts diagnostic_tokens
    (λ w a h. λ i. tree.diagnostic (record {
      severity = given_or error (look_up severities (h.0 i));
      rule_name = same_rule w.1.0 a.1.0 w.1.1.0 a.1.1.0 h.1.0 h.1.1.0 i;
    })))

-- ---- modules, where empty declarations are left out
abbrev bare_item : Spanned GlobalDeclaration → Spanned GlobalDeclaration
bare_item = bare_spanned bare_global_declaration

-- a declaration after others, if it is not empty
full_after : (ds : List (Spanned GlobalDeclaration)) (d : Spanned GlobalDeclaration)
    → full_declarations (ds ++ (d ∷ [])) ≡ full_declarations ds ++ full_declarations (d ∷ [])
full_after [] d = refl
full_after (e ∷ ds) d = at (full_after ds d) (is_void e.node) where
  item : Spanned GlobalDeclaration
  item = record e { node = full_declaration e.node }

  at : full_declarations (ds ++ (d ∷ [])) ≡ full_declarations ds ++ full_declarations (d ∷ [])
      → (void : Bool)
      → (if void then full_declarations (ds ++ (d ∷ [])) else item ∷ full_declarations (ds ++ (d ∷ [])))
      ≡ (if void then full_declarations ds else item ∷ full_declarations ds) ++ full_declarations (d ∷ [])
  at further true = further
  at further false = ap (λ z. item ∷ z) further

-- declarations that are found for a list
abbrev FoundDeclarations : List (Spanned GlobalDeclaration) → List Token → List Kind → Type 0
FoundDeclarations v = Found (Means checking D (many (symbol global_declaration)))
    (λ w. map bare_item w ≡ map bare_item (full_declarations v))

-- the same with one more declaration, which is left out if it is empty
one_more : (a : List (Spanned GlobalDeclaration)) (b : Spanned GlobalDeclaration)
    → Finds (D global_declaration) (λ w. Same global_declaration w b) (write global_declaration b)
    → (us : List Token) (ks : List Kind) → FoundDeclarations a us (kept_declaration_tokens b ks)
    → FoundDeclarations (a ++ (b ∷ [])) us ks
one_more a b last us ks x = at (is_void b.node) refl x where
  at : (void : Bool) → is_void b.node ≡ void
      → FoundDeclarations a us (if void then ks else global_declaration_tokens b.node ks)
      → FoundDeclarations (a ++ (b ∷ [])) us ks
  at true q x = record {
    value = x.value;
    rest = x.rest;
    kinds = x.kinds;
    like = x.like ∙ ap (map bare_item) (sym (full_after a b ∙ rw q (append-nil (full_declarations a))));
    derived = x.derived;
  }
  at false q x =
      let y = last x.rest ks x.kinds in
      record {
        value = x.value ++ (y.value ∷ []);
        rest = y.rest;
        kinds = y.kinds;
        like = map_after bare_item x.value y.value
            ∙ ap₂ (λ (z : List (Spanned GlobalDeclaration)) (u : GlobalDeclaration). z
            ++ (record { node = u; span = no_span } ∷ [])) x.like y.like
            ∙ sym (ap (map bare_item) (full_after a b) ∙ rw q (map_after bare_item
            (full_declarations a) (record b { node = full_declaration b.node })));
        derived = more x.value y.value x.rest y.rest x.derived y.derived;
      }

declarations_read : Reads (many (symbol global_declaration)) (all_tokens kept_declaration_tokens)
    (λ w v. map bare_item w ≡ map bare_item (full_declarations v))
declarations_read = record { again = λ v xs ys d words. go xs v ys d words } where
  push : List (Spanned GlobalDeclaration) → Spanned GlobalDeclaration → Span → List (Spanned GlobalDeclaration)
  push ds d span = ds ++ (d ∷ [])

  none : Rule (List (Spanned GlobalDeclaration))
  none = empty []

  like : List (Spanned GlobalDeclaration) → List (Spanned GlobalDeclaration) → Type 0
  like w v = map bare_item w ≡ map bare_item (full_declarations v)

  N : Reads none (all_tokens kept_declaration_tokens) like
  N = none_reads (λ rest. refl) refl

  go : (xs : List Token) (v : List (Spanned GlobalDeclaration)) (ys : List Token)
      → Chain push (Means checking Again none) (Again global_declaration) xs v ys → AllWords xs
      → Outcome (many (symbol global_declaration)) (all_tokens kept_declaration_tokens) like v ys
  go xs _ _ (base a ys d) words =
      let found = N.again a xs ys d words in
      (found.0, λ us ks e. found_in (λ x rest i. base x rest i) (found.1 us ks e))
  go xs _ _ (more a b ys zs c d) words =
      let before = go xs a ys c words in
      let last = (symbol_reads global_declaration).again b ys zs d before.0 in (
        last.0,
        λ us ks e. one_more a b last.1 us ks (before.1 us (kept_declaration_tokens b ks)
            (e ∙ all_after kept_declaration_tokens a b ks)),
      )

directives_read : Reads (many (symbol global_directive)) (all_tokens directive_tokens)
    (λ w v. map bare_directive w ≡ map bare_directive v)
directives_read = many_reads {bare = bare_directive} {kept = bare_directive} (symbol_reads global_directive)

pub unit_reads : Reads (written unit) (write unit) (Same unit)
unit_reads = gives_reads (then_reads directives_read declarations_read) (λ a rest. refl)
    (λ w a h. λ i. record { global_directives = h.0 i; global_declarations = h.1 i })
