-- The list of attributes that a statement has holds those of its plain tree.
use Rattle.std.proofs.Common.{◌≡◌, sym, ◌∙◌, ap, arith}
use Rattle.wgsl_tree_attribute.specs.View.{attributes_view}
use Rattle.wgsl_tree_statement.specs.declared.statement.Statement.{Statement}
use Rattle.wgsl_tree_statement.specs.declared.statement.Statement.TheViews.{out-Statement, roll-Statement, roll-out-Statement}
use denote.Hole.Carrier as Carrier
use Rattle.wgsl_tree_statement.specs.View as V
use Rattle.wgsl_tree_statement.proofs.Views.{layer_views, variants}
use Rattle.wgsl_tree_node.specs.Parts.{attributes_in}
use Rattle.wgsl_tree_node.specs.PlainAttributes.{attributes_of_statement}
use Rattle.wgsl_tree_node.specs.StatementNodes.{StatementLayer, list_of_kind, statement_list}

kind_listed : (k : StatementLayer) → attributes_of_statement (V.statement_view (roll-Statement k))
    ≡ attributes_view (attributes_in (list_of_kind k))
unfolding roll-Statement Carrier.roll
kind_listed k = grind (arith, variants, layer_views)

pub statement_listed : (s : Statement)
    → attributes_of_statement (V.statement_view s) ≡ attributes_view (attributes_in (statement_list s))
statement_listed s =
    ap (λ (t : Statement). attributes_of_statement (V.statement_view t)) (sym (roll-out-Statement s))
    ∙ kind_listed (out-Statement s)
