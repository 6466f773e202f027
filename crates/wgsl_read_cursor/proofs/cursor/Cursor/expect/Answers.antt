use Rattle.wgsl_lex_token.specs.View.{class_of_kind}
use Rattle.wgsl_read_cursor.specs.Reading.{state}
use Rattle.wgsl_read_cursor.proofs.Refused.{refused_is}
use Rattle.wgsl_read_cursor.proofs.cursor.Cursor.expect.Goals as goal

pub returns : goal.returns
returns c = record {
  value = refused_is _ (class_of_kind c.args.kind) (state c.args.self.now) (state c.eat.new.self)
      c.eat.result c.refuse.result c.eat.ensures.value c.if-eat.false c.eat.ensures.rest c.refuse.ensures;
  shorter = tt;
}
