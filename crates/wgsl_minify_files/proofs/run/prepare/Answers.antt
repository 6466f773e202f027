use Rattle.wgsl_minify_files.specs.View.{options_view}
use Rattle.wgsl_minify_files.proofs.Runs.{prepared_from, stops_from}
use Rattle.wgsl_minify_files.proofs.run.prepare.Goals as goal

pub returns-clause-prepared : goal.returns-clause-prepared
returns-clause-prepared g c =
    prepared_from (options_view c.args.options.now) (g.S.Store.files c.args.store.now) _ _
    c.in_ok-source.source.items c.as_slice.result.now c.in_ok-source.ensures.read c.as_slice.ensures.value
    c.minify_source.result c.minify_source.ensures.minified

pub returns-clause-stops : goal.returns-clause-stops
returns-clause-stops g c =
    stops_from (options_view c.args.options.now) (g.S.Store.files c.args.store.now) _ _
    c.in_ok-source.source.items c.as_slice.result.now c.in_ok-source.ensures.read c.as_slice.ensures.value
    c.minify_source.result c.minify_source.ensures.refused
