-- The laws are proved in `Units`.
use Rattle.wgsl_server_text.proofs.Units.{width_bytes, width_character}
use Rattle.wgsl_server_text.proofs.laws.units_of_characters.Goals as goal

pub returns : goal.returns
returns c = record { utf8 = λ text. width_bytes text; utf16 = λ c. width_character c }
