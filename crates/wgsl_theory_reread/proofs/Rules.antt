-- How a rule follows from its right side, and how the symbols in a right side are read again.
use Rattle.std.proofs.Common.{◌≡◌, List, refl}
use Rattle.grammar.specs.Tokens.{Token}
use Rattle.grammar.specs.Grammar.{Grammar.symbol, Mode.checking, Means}
use Rattle.grammar.specs.Notation.{◌gives◌}
use Rattle.grammar.proofs.Reading.Depth.{roll}
use Rattle.wgsl_model.specs.Tokens.ClassTable.{SymEqual}
use Rattle.wgsl_model.specs.Tokens.Kind.{Kind}
use Rattle.wgsl_model.specs.Grammar.Checks.{attribute_node}
use Rattle.wgsl_model.specs.Grammar.StatementParts as parts
use Rattle.wgsl_model.specs.Grammar.StatementParts.{initializer, var_kind}
use Rattle.wgsl_model.specs.Trees.WithoutSpans.{bare_spanned, bare_expression_node, bare_attribute, bare_attributes}
use Rattle.wgsl_model.specs.Grammar.Symbols.{Symbol, ident, diagnostic_severity, component, negated_expression, expression, attribute, var_template, Value}
use Rattle.wgsl_model.specs.Grammar.Written.{written}
use Rattle.wgsl_theory_reread.specs.CanonicalAttributes.{attribute_tokens, attributes_tokens}
use Rattle.wgsl_theory_reread.specs.CanonicalStatements.{kind_tokens, initializer_tokens}
use Rattle.wgsl_theory_reread.proofs.Words.{AllWords}
use Rattle.wgsl_theory_reread.proofs.Again.{D, Again, write, Same, Known, Found, Finds}
use Rattle.wgsl_theory_reread.proofs.Ways.{Reads, found_in, gives_reads, before_reads, many_reads}

-- ---- from the right side of a symbol to the symbol
-- what a right side derives, its symbol derives
pub rolled : {n : Symbol} {Like : Value n → Type 0} {us : List Token} {ks : List Kind}
    → Found (Means checking D (written n)) Like us ks → Found (D n) Like us ks
rolled {n} {us = us} f = found_in (λ a rest d. roll checking written n a us rest d) f

-- the rule of a symbol, with what else is known of its value
pub known_by : (n : Symbol) → Reads (written n) (write n) (Same n) → (v : Value n) → Known n v
    → (xs ys : List Token) → Means checking Again (written n) v xs ys → AllWords xs
    → AllWords ys × Known n v × Finds (D n) (λ w. Same n w v) (write n v)
known_by n R v known xs ys d words =
    let found = R.again v xs ys d words in (found.0, known, λ us ks e. rolled {n = n} (found.1 us ks e))

-- ---- a symbol in a right side
-- what is read again, without what else is known of it
pub without_known : {A B C : Type 0} → A × B × C → A × C
without_known found = (found.0, found.2)

-- of each symbol but those that are written with what is before them
abbrev pub SymbolReads : Symbol → Type 0
SymbolReads component = Unit {0}
SymbolReads negated_expression = Unit {0}
SymbolReads n = Reads (symbol n) (write n) (Same n)

pub symbol_reads : (n : Symbol) → SymbolReads n
symbol_reads component = tt
symbol_reads negated_expression = tt
symbol_reads n = record { again = λ v xs ys h words. without_known (h words) }

-- the symbols whose rules are read again as any other
abbrev pub IsRead : Symbol → Type 0
IsRead ident = ⊥
IsRead component = ⊥
IsRead negated_expression = ⊥
IsRead attribute = ⊥
IsRead var_template = ⊥
IsRead diagnostic_severity = ⊥
IsRead n = Unit {0}

-- ---- parts of several rules
pub var_kind_reads : Reads var_kind kind_tokens (λ w v. w ≡ v)
var_kind_reads = gives_reads (symbol_reads var_template) (λ a rest. refl) (λ w a h. h)

pub initializer_reads : Reads initializer initializer_tokens (λ w v. bare_expression_node w ≡ bare_expression_node v)
initializer_reads = before_reads SymEqual refl (symbol_reads expression)

-- attributes, from what is proved of one
abbrev pub AttributeReads : Type 0
AttributeReads = Reads (symbol attribute gives attribute_node) attribute_tokens
    (λ w v. bare_spanned bare_attribute w ≡ bare_spanned bare_attribute v)

pub attributes_read : AttributeReads
    → Reads parts.attributes attributes_tokens (λ w v. bare_attributes w ≡ bare_attributes v)
attributes_read one = many_reads one
