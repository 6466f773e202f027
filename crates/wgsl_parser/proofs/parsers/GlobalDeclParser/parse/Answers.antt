use Rattle.grammar.specs.Tokens.{Span}
use Rattle.wgsl_model.specs.Trees.Spanned.{spanned}
use Rattle.wgsl_model.specs.Grammar.Symbols.{Symbol.global_declaration}
use Rattle.wgsl_span.specs.Spanned.{spanned_span}
use Rattle.wgsl_span.specs.View.{span_view, spanned_view}
use Rattle.wgsl_tree_unit.specs.View.{global_declaration_view}
use Rattle.wgsl_parser.specs.Iterators.{Derived}
use Rattle.wgsl_parser.proofs.Given.{accepted_alike}
use Rattle.wgsl_parser.proofs.parsers.GlobalDeclParser.parse.Goals as goal

pub returns : goal.returns
returns g c =
    let node = c.in_ok-read_tokens.field-0 in
    accepted_alike global_declaration
    (λ v found. Derived global_declaration (spanned_view global_declaration_view v) found)
    (λ v found. (s : Span) × Derived global_declaration (spanned (global_declaration_view v) s) found)
    (g.T.IntoIterator.into_iter_gives c.args.tokens) g.T.IntoIter.Iterator.next_gives
    c.read_tokens.result node c.into_inner.result c.read_tokens.ensures c.in_ok-read_tokens.was
    (λ found derived. (span_view (spanned_span node), rw c.into_inner.ensures derived))
