-- What is returned of the tokens is returned of the text.
use Rattle.std.proofs.Common.{chars}
use Rattle.wgsl_model.specs.Grammar.Symbols.{Dialect.parsed}
use Rattle.wgsl_lexer.specs.TextTokens.{tokens_left, ending_left}
use Rattle.wgsl_read_cursor.proofs.Origins.{no_want}
use Rattle.wgsl_read_dialect.proofs.Recognized.{accepted_is, refused_is, placed_is}
use Rattle.wgsl_read_dialect.proofs.recognize.check_syntax.Goals as goal

pub returns-clause-accepted : goal.returns-clause-accepted
returns-clause-accepted c =
    let ts = tokens_left c.args.tokens in
    let ending = ending_left c.args.tokens in
    let source = chars c.args.source.now in
    accepted_is parsed source ts ending c.recognize_unit.result c.requires
    (c.recognize_unit.ensures ts ending c.of_tokens-tokens.ensures (no_want source ts ending c.requires))

pub returns-clause-refused : goal.returns-clause-refused
returns-clause-refused c =
    let ts = tokens_left c.args.tokens in
    let ending = ending_left c.args.tokens in
    let source = chars c.args.source.now in
    refused_is parsed source ts ending c.recognize_unit.result c.requires
    (c.recognize_unit.ensures ts ending c.of_tokens-tokens.ensures (no_want source ts ending c.requires))

pub returns-clause-placed : goal.returns-clause-placed
returns-clause-placed c =
    let ts = tokens_left c.args.tokens in
    let ending = ending_left c.args.tokens in
    let source = chars c.args.source.now in
    placed_is parsed c.args.source.now ts ending c.recognize_unit.result c.utf8.source c.requires
    (c.recognize_unit.ensures ts ending c.of_tokens-tokens.ensures (no_want source ts ending c.requires))
