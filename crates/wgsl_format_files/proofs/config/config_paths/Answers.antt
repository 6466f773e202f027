use Rattle.std.proofs.Common.{◌≡◌, subst, sym, IfOk, map, string_bytes, lit<}
use Rattle.std.proofs.lemmas.Str.Pattern.{strip_prefix_char}
use Rattle.wgsl_format_files.proofs.Configs.{no_root}
use Rattle.wgsl_format_files.proofs.config.config_paths.Goals as goal

pub returns-in-None : goal.returns-in-None
returns-in-None c =
    subst (λ all. IfOk c.paths_below-in-None.result (λ paths. map string_bytes paths.items ≡ all))
    (sym (no_root c.args.path.now c.strip_prefix.result (strip_prefix_char 47 c.args.path.now
    c.strip_prefix.result c.strip_prefix.ensures.cases (lit< tt)) c.in-None.is))
    c.paths_below-in-None.ensures
