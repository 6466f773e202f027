use Rattle.wgsl_print_packed.proofs.Table.{text_in-at, text_in-past}
use Rattle.wgsl_print_packed.proofs.notation.text_at.Goals as goal

pub returns-then-at-table : goal.returns-then-at-table
returns-then-at-table c = text_in-at (λ t. t.now) c.args.table.now c.args.number _ c.if-at-table.true

pub returns-else-at-table : goal.returns-else-at-table
returns-else-at-table c = text_in-past (λ t. t.now) c.args.table.now c.args.number c.if-at-table.false
