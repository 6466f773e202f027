-- The law is proved in `Back`.
use Rattle.wgsl_server_text.proofs.Back.{range_back}
use Rattle.wgsl_server_text.proofs.laws.ranges_and_back.Goals as goal

pub returns : goal.returns
returns c = λ e text start end from to order. range_back e text start end from to order
