use Rattle.std.proofs.Common.{◌∙◌, ap}
use Rattle.wgsl_lex_token.specs.View.{view_of_class}
use Rattle.wgsl_lex_token.proofs.Texts.{plain}
use Rattle.wgsl_lex_token.proofs.token_table.Token.clone.Goals as goal

pub returns-in_default : goal.returns-in_default
returns-in_default c =
    let d = c.in_default in
    c.from_kind.ensures ∙ ap view_of_class c.kind.ensures ∙ (plain c.args.self.now d.not-Ident
    d.not-ReservedWord d.not-AbstractInt d.not-I32 d.not-U32 d.not-AbstractFloat d.not-F32 d.not-F16).0
