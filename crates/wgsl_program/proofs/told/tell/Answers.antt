use Rattle.std.proofs.Common.{inr, refl}
use Rattle.clap.specs.Words.{kind_of}
use Rattle.wgsl_program.proofs.Starts.{told_text}
use Rattle.wgsl_program.proofs.told.tell.Goals as goal

pub returns-then-is_memory : goal.returns-then-is_memory
returns-then-is_memory g c = λ files left.
    inr (record { says = c.say.ensures; output = refl; files = refl; left = refl })

pub returns-in_default : goal.returns-in_default
returns-in_default g c = λ files left.
    inr (record { says = c.say-in_default.ensures; output = refl; files = refl; left = refl })

pub returns-then-is_display : goal.returns-then-is_display
returns-then-is_display g c = λ files left.
    told_text _ (kind_of c.args.error.now) _ _ _ _ _ c.as_str.result.now _ _ _ c.kind.ensures c.is_memory.ensures
    c.if-is_memory.false c.kind-2.ensures c.is_display.ensures c.if-is_display.true
    (record { says = c.say-then-is_display.ensures; errors = refl; files = refl; left = refl })

pub returns : goal.returns
returns g c = λ files left.
    told_text _ (kind_of c.args.error.now) _ _ _ _ _ c.as_str-else-is_display.result.now _ _ _
    c.kind.ensures c.is_memory.ensures
    c.if-is_memory.false c.kind-2.ensures c.is_display.ensures c.if-is_display.false
    (record { says = c.say-else-is_display.ensures; output = refl; files = refl; left = refl })
