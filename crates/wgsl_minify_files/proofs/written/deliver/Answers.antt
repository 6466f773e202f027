use Rattle.std.proofs.Common.{◌≡◌, rules, string_bytes}
use Rattle.wgsl_tree_renamed.specs.NewNames.{pairs}
use Rattle.wgsl_minify_files.specs.View.{options_view}
use Rattle.wgsl_minify_files.proofs.Runs.{delivered, kept_back}
use Rattle.wgsl_minify_files.proofs.written.deliver.Goals as goal

pub returns-then-status-ne0 : goal.returns-then-status-ne0
returns-then-status-ne0 g c left rest = kept_back (options_view c.args.options.now) (pairs c.args.minified.now.names)
    (string_bytes c.args.minified.now.text) _ _ c.save-status.result (c.save-status.ensures left rest) c.if-status-ne0.true

pub returns : goal.returns
returns g c left rest =
    let is : c.as_str.result.now ≡ string_bytes c.args.minified.now.text = search rules in
    delivered (options_view c.args.options.now) (pairs c.args.minified.now.names)
    (string_bytes c.args.minified.now.text) (c.as_str.result.now) is _ _ _ c.save-status.result c.write.result
    (c.save-status.ensures left rest) c.if-status-ne0.false (c.write.ensures rest rest)
