use Rattle.wgsl_minify_names.proofs.short.+push_short_name.Given as goal

abbrev pub decreases-push_short_name : goal.decreases-push_short_name
decreases-push_short_name l = l.number
