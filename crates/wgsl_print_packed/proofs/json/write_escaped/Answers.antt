use Rattle.std.proofs.Common.{◌++◌, ◌+◌, take, refl}
use Rattle.wgsl_print_packed.proofs.Lines.{line_cut}
use Rattle.wgsl_print_packed.proofs.Escaped.{escape_written, last_escaped}
use Rattle.wgsl_print_packed.proofs.json.write_escaped.Goals as goal

pub escapes-preserved : goal.escapes-preserved
escapes-preserved c =
    let done = c.escapes.invariant.0 in
    let left = c.escapes.left.now in
    let at = c.in-Some.at in (
      done ++ take (at + 1) left,
      line_cut _ done left _ (at + 1) refl c.escapes.invariant.1,
      escape_written c.args.out.now.items done left _ _ _ at c.in-Some.ensures c.escapes.invariant.2
          c.in_ok-extend_from_slice.ensures.items
          c.in_ok-write_escape.ensures,
    )

pub returns : goal.returns
returns c = last_escaped c.args.out.now.items c.escapes.invariant.0 c.escapes.left.now
    c.args.text.now _ _ c.in_default.ensures c.escapes.invariant.1 c.escapes.invariant.2
    c.in_ok-extend_from_slice-2.ensures.items
