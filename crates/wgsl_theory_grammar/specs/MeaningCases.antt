-- Written by tools/tables/meanings.py from Written and Factored: which meanings do not follow.
use Rattle.wgsl_theory_grammar.specs.Factored.{Further, Further.alias_part, Further.assert_part, Further.attributed_part, Further.block_part, Further.braced_part, Further.clause_part, Further.const_part, Further.continuing_part, Further.diagnostic_part, Further.directive_part, Further.enable_part, Further.ended_part, Further.for_part, Further.function_part, Further.if_part, Further.led_part, Further.local_part, Further.loop_part, Further.override_part, Further.requires_part, Further.returning_part, Further.struct_part, Further.switch_part, Further.value_part, Further.var_part, Further.while_part}

abbrev pub IsOther : Further → Type 0
IsOther returning_part = ⊥
IsOther if_part = ⊥
IsOther switch_part = ⊥
IsOther loop_part = ⊥
IsOther for_part = ⊥
IsOther while_part = ⊥
IsOther local_part = ⊥
IsOther value_part = ⊥
IsOther assert_part = ⊥
IsOther clause_part = ⊥
IsOther continuing_part = ⊥
IsOther var_part = ⊥
IsOther const_part = ⊥
IsOther override_part = ⊥
IsOther alias_part = ⊥
IsOther struct_part = ⊥
IsOther function_part = ⊥
IsOther enable_part = ⊥
IsOther requires_part = ⊥
IsOther diagnostic_part = ⊥
IsOther block_part = ⊥
IsOther braced_part = ⊥
IsOther ended_part = ⊥
IsOther attributed_part = ⊥
IsOther led_part = ⊥
IsOther directive_part = ⊥
IsOther x = Unit {0}
