use Rattle.std.proofs.Common.{rules, sym, ap, ◌∙◌}
use Rattle.std.proofs.Output.{has_written_of_eq}
use Rattle.wgsl_name_map.specs.Texts.{control}
use Rattle.wgsl_name_map.proofs.Texts.{unchanged, controlled}
use Rattle.wgsl_name_map.proofs.text.write_character.Goals as goal

pub returns-then-number-lt32 : goal.returns-then-number-lt32
returns-then-number-lt32 g c = λ plain ok.
    has_written_of_eq _ _ _ _ _ (ap control c.from-number.ensures
    ∙ sym (controlled c.args.c (search rules))) (c.write_control.ensures plain ok)

pub returns : goal.returns
returns g c = λ plain ok. has_written_of_eq _ _ _ _ _ (sym (unchanged c.args.c (search rules)
    (search rules) (search rules))) (c.write_char.ensures.writes plain ok)
