use Rattle.std.proofs.Common.{sym, ap, List, ℕ, Some}
use Rattle.std.proofs.lemmas.Str.{encodes-chars}
use Rattle.wgsl_model.specs.Tokens.ClassTable.{AbstractFloat, F32, F16}
use Rattle.wgsl_model.specs.Tokens.Kind.{named}
use Rattle.wgsl_lex_scanner.proofs.Bytes.{bytes_of}
use Rattle.wgsl_lex_scanner.proofs.float.FloatType.lexeme.Goals as goal

pub returns-in-AbstractFloat : goal.returns-in-AbstractFloat
returns-in-AbstractFloat c = rw c.in-AbstractFloat.is
    (ap (λ (bs : List ℕ). Some (named AbstractFloat bs)) (sym (encodes-chars c.args.spelling.now c.utf8.spelling)))

pub returns-in-F32 : goal.returns-in-F32
returns-in-F32 c = rw c.in-F32.is (ap (λ (bs : List ℕ). Some (named F32 bs))
    (bytes_of c.without_last.result.now _ c.without_last.utf8 c.without_last.ensures))

pub returns-in-F16 : goal.returns-in-F16
returns-in-F16 c =
    let cut = c.without_last-in-F16 in
    rw c.in-F16.is (ap (λ (bs : List ℕ). Some (named F16 bs)) (bytes_of cut.result.now _ cut.utf8 cut.ensures))
