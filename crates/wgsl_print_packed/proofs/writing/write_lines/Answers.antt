use Rattle.std.proofs.Common.{◌++◌, ◌+◌, take, refl}
use Rattle.wgsl_writer.specs.Depth.{spaces}
use Rattle.wgsl_print_packed.proofs.Lines.{line_cut, line_written, last_written}
use Rattle.wgsl_print_packed.proofs.writing.write_lines.Goals as goal

pub lines-preserved : goal.lines-preserved
lines-preserved c =
    let gap = spaces c.args.depth in
    let start = c.args.out.now.items in
    let done = c.lines.invariant.0 in
    let left = c.lines.left.now in
    let at = c.in-Some.at in (
      done ++ take (at + 1) left,
      line_cut _ done left _ (at + 1) refl c.lines.invariant.1,
      line_written gap start done left _ _ _ at c.in-Some.ensures c.lines.invariant.2
          c.in_ok-extend_from_slice.ensures.items
          c.in_ok-break_line.ensures,
    )

pub returns : goal.returns
returns c = last_written (spaces c.args.depth) c.args.out.now.items c.lines.invariant.0 c.lines.left.now
    c.args.text.now _ _ c.in_default.ensures c.lines.invariant.1 c.lines.invariant.2
    c.in_ok-extend_from_slice-2.ensures.items
