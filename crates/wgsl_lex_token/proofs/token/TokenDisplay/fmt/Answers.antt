use Rattle.std.proofs.Common.{ap, ◌∙◌}
use Rattle.std.proofs.Output.{has_written_of_eq}
use Rattle.wgsl_lex_token.specs.Groups.{word_of_class}
use Rattle.wgsl_lex_token.proofs.Texts.{plain}
use Rattle.wgsl_lex_token.proofs.token.TokenDisplay.fmt.Goals as goal

pub returns-in_default : goal.returns-in_default
returns-in_default g c =
    let d = c.in_default in
    let same = c.text.ensures ∙ ap word_of_class c.kind.ensures ∙ (plain c.args.self.now d.not-Ident
    d.not-ReservedWord d.not-AbstractInt d.not-I32 d.not-U32 d.not-AbstractFloat d.not-F32 d.not-F16).1 in
    record {
      writes = λ p ok. has_written_of_eq _ _ _ _ _ same (c.write_str.ensures.writes p ok);
      styled = tt;
    }
