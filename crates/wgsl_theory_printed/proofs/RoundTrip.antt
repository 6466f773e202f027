-- The printed text of a derived unit has the tokens that are written from it, so it reads as that
-- unit without its empty items, ignoring spans.
use Rattle.std.proofs.Common.{◌≡◌, ℕ, true, sym, ap, subst, List, [], ◌∙◌, chars}
use Rattle.std.specs.Str.{is_utf8}
use Rattle.std.proofs.lemmas.Str.{is_utf8-from_IsUtf8}
use Rattle.grammar.specs.Endings.{Ending.finished}
use Rattle.wgsl_model.specs.Trees.Units.{TranslationUnit}
use Rattle.wgsl_model.specs.Printed.Units.{print_unit}
use Rattle.wgsl_model.specs.Trees.EmptyItems.{full_unit}
use Rattle.wgsl_model.specs.Trees.StatementsWithoutSpans.{bare_unit}
use Rattle.wgsl_model.specs.Tokens.TokenList.{width}
use Rattle.wgsl_model.specs.Program.{IsUnit, ReadsBack, Formats, printed}
use Rattle.wgsl_theory_reread.proofs.Trees.EmptyItems.{unit_printed}
use Rattle.wgsl_theory_reread.proofs.Trees.SpansUnits.{unit_print_bare}
use Rattle.wgsl_theory_reread.specs.CanonicalUnits.{canonical, HasTokens}
use Rattle.wgsl_theory_templates.proofs.Lexed.Runs.{lexed}
use Rattle.wgsl_theory_templates.proofs.Changes.WrittenShape.{written_shape}
use Rattle.wgsl_theory_printed.proofs.Sound.DerivedUnits.{unit_utf8, unit_along}
use Rattle.wgsl_theory_printed.proofs.PlainWords.{module_words, canonical_parse}
use Rattle.wgsl_theory_printed.proofs.UnitOrFault.{one_unit}

-- ---- the printed text of a derived unit

-- it is UTF-8
pub printed_is_utf8 : (source : List ℕ) (u : TranslationUnit) → IsUnit source u → is_utf8 (print_unit u) ≡ true
printed_is_utf8 source u h = is_utf8-from_IsUtf8 (print_unit u) (unit_utf8 source u h)

-- its tokens are those written from the tree
pub printed_tokens : (source : List ℕ) (u : TranslationUnit) → IsUnit source u → HasTokens (print_unit u) (canonical u)
printed_tokens source u h =
    let text = chars (print_unit u) in lexed (canonical u)
    (written_shape source u h (module_words source h.0 finished h.1)) (width text) text
    (unit_along source u h)

-- it reads as the unit without its empty items, ignoring spans
pub printed_parse : (source : List ℕ) (u : TranslationUnit) → IsUnit source u → ReadsBack (print_unit u) u
printed_parse source u h =
    let found = printed_tokens source u h in
    let back = canonical_parse source u h found.0 found.2 in
    (back.0, (found.0, found.1, back.1), back.2)

-- ---- printing it again

-- what it reads as prints the same
prints_again : (u again : TranslationUnit) → bare_unit again ≡ bare_unit (full_unit u) → print_unit again ≡ print_unit u
prints_again u again e = sym (unit_print_bare again) ∙ ap print_unit e ∙ unit_print_bare (full_unit u) ∙ unit_printed u

-- whatever it reads as prints the same
pub print_twice : (source : List ℕ) (u again : TranslationUnit) → IsUnit source u
    → IsUnit (chars (print_unit u)) again → print_unit again ≡ print_unit u
print_twice source u again h k =
    let back = printed_parse source u h in
    ap print_unit (one_unit (chars (print_unit u)) again back.0 k back.1) ∙ prints_again u back.0 back.2

-- the program writes what it wrote as it is
pub formatted_twice : (source : List ℕ) (u : TranslationUnit) → IsUnit source u
    → Formats (print_unit u) (record { status = 0; output = print_unit u; errors = [] })
formatted_twice source u h =
    let back = printed_parse source u h in
    subst (λ (text : List ℕ). Formats (print_unit u) (record { status = 0; output = text; errors = [] }))
    (prints_again u back.0 back.2) (printed back.0 (printed_is_utf8 source u h) back.1)
