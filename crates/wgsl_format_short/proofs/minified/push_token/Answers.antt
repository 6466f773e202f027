use Rattle.std.proofs.Common.{string_bytes}
use Rattle.std.proofs.lemmas.Str.{IsUtf8-string_bytes}
use Rattle.wgsl_lex_token.specs.View.{class_of_kind}
use Rattle.wgsl_format_short.proofs.Needless.{pushed}
use Rattle.wgsl_format_short.proofs.minified.push_token.Goals as goal

pub returns : goal.returns
returns c = pushed (string_bytes c.args.text.now) (string_bytes c.push_str.new.self) (string_bytes c.push_str-2.new.self)
    c.gap.result.now c.args.token.now (class_of_kind c.args.last) (class_of_kind c.args.kind) c.args.needless
    (IsUtf8-string_bytes c.args.text.now) (IsUtf8-string_bytes c.push_str.new.self) c.if-needless.false
    c.in_ok-push_str.ensures.bytes c.in_ok-push_str-2.ensures.bytes c.gap.ensures
