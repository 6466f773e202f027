use Rattle.std.proofs.Common.{sym, subst}
use Rattle.wgsl_model_minify.specs.Chosen.{AreNewNames}
use Rattle.wgsl_model_minify.specs.Renamed.{no_names}
use Rattle.wgsl_minify_names.specs.View.{table_view, texts, which_view}
use Rattle.wgsl_minify_names.proofs.Serves.{nothing_renamed}
use Rattle.wgsl_minify_names.proofs.table.choose.Goals as goal

pub returns-in-None : goal.returns-in-None
returns-in-None c = λ unit e.
    subst (λ which. AreNewNames (which_view which) (texts c.args.keep.now) unit
    (table_view c.new.result.items)) (sym c.in-None.is)
    (subst (λ items. AreNewNames no_names (texts c.args.keep.now) unit (table_view items)) (sym c.new.ensures.items)
    (nothing_renamed (texts c.args.keep.now) unit))
