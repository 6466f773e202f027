use Rattle.std.proofs.Common.{sym, ap, ◌∙◌, lit<}
use Rattle.std.specs.Option.{option_copied}
use Rattle.std.proofs.lemmas.Str.Pattern.{strip_prefix_char}
use Rattle.wgsl_editorconfig.proofs.Enclosed.{no_list}
use Rattle.wgsl_editorconfig.proofs.glob.list_in.Goals as goal

pub returns-in_err-strip_prefix : goal.returns-in_err-strip_prefix
returns-in_err-strip_prefix c =
    ap option_copied c.from_residual.ensures ∙ sym (no_list c.args.text.now c.strip_prefix.result
    (strip_prefix_char 123 c.args.text.now c.strip_prefix.result c.strip_prefix.ensures.cases
    (lit< tt)) c.in_err-strip_prefix.was)
