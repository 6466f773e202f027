-- What is returned of the tokens is returned of the text.
use Rattle.std.proofs.Common.{chars}
use Rattle.wgsl_model.specs.Grammar.Symbols.{Dialect.recognized}
use Rattle.wgsl_read_cursor.proofs.Origins.{no_want}
use Rattle.wgsl_read_dialect.proofs.Recognized.{accepted_is, refused_is, placed_is}
use Rattle.wgsl_read_dialect.proofs.recognize.recognize_str.Goals as goal

pub returns-clause-accepted : goal.returns-clause-accepted
returns-clause-accepted c =
    let found = c.in_ok-of_text.ensures in
    let source = chars c.args.source.now in
    accepted_is recognized source found.0 found.1 c.recognize_unit.result found.2
    (c.recognize_unit.ensures found.0 found.1 found.3 (no_want source found.0 found.1 found.2))

pub returns-clause-refused : goal.returns-clause-refused
returns-clause-refused c =
    let found = c.in_ok-of_text.ensures in
    let source = chars c.args.source.now in
    refused_is recognized source found.0 found.1 c.recognize_unit.result found.2
    (c.recognize_unit.ensures found.0 found.1 found.3 (no_want source found.0 found.1 found.2))

pub returns-clause-placed : goal.returns-clause-placed
returns-clause-placed c =
    let found = c.in_ok-of_text.ensures in
    let source = chars c.args.source.now in
    placed_is recognized c.args.source.now found.0 found.1 c.recognize_unit.result c.utf8.source found.2
    (c.recognize_unit.ensures found.0 found.1 found.3 (no_want source found.0 found.1 found.2))
