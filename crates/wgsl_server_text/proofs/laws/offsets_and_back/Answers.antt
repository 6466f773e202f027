-- The law is proved in `Back`.
use Rattle.wgsl_server_text.proofs.Back.{offsets_back}
use Rattle.wgsl_server_text.proofs.laws.offsets_and_back.Goals as goal

pub returns : goal.returns
returns c = λ e text offset border. offsets_back e text offset border
