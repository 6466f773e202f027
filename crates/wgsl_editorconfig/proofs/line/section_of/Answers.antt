use Rattle.std.proofs.Common.{sym, ap, ◌∙◌, lit<}
use Rattle.std.specs.Option.{option_copied}
use Rattle.std.proofs.lemmas.Str.Pattern.{strip_prefix_char, strip_suffix_char}
use Rattle.wgsl_editorconfig.proofs.Enclosed.{no_section, is_section}
use Rattle.wgsl_editorconfig.proofs.line.section_of.Goals as goal

pub returns-in_err-strip_prefix : goal.returns-in_err-strip_prefix
returns-in_err-strip_prefix c =
    ap option_copied c.from_residual.ensures ∙ sym (no_section c.args.text.now c.strip_prefix.result
    (strip_prefix_char 91 c.args.text.now c.strip_prefix.result c.strip_prefix.ensures.cases
    (lit< tt)) c.in_err-strip_prefix.was)

pub returns : goal.returns
returns c =
    is_section c.args.text.now c.strip_prefix.result c.in_ok-strip_prefix.field-0 c.strip_suffix.result
    (strip_prefix_char 91 c.args.text.now c.strip_prefix.result c.strip_prefix.ensures.cases (lit< tt))
    c.in_ok-strip_prefix.was
    (strip_suffix_char 93 c.in_ok-strip_prefix.field-0.now c.strip_suffix.result c.strip_suffix.ensures.cases (lit< tt))
