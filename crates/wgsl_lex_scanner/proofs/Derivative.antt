-- What of a pattern is left after a character.
use Rattle.std.proofs.Common.{ℕ, Bool, true, false, cond, ◌&&◌, ◌||◌}
use Rattle.wgsl_model.specs.Tokens.Pattern.{Pattern, nothing, empty, one, any, both, either}

-- one after the other, in short
abbrev pub both_of : Pattern → Pattern → Pattern
both_of nothing b = nothing
both_of empty b = b
both_of (one p) b = both (one p) b
both_of (any p) b = both (any p) b
both_of (both a c) b = both (both a c) b
both_of (either a c) b = both (either a c) b

-- one or the other, in short, where the first is something
abbrev pub either_more : Pattern → Pattern → Pattern
either_more a nothing = a
either_more a empty = either a empty
either_more a (one p) = either a (one p)
either_more a (any p) = either a (any p)
either_more a (both b c) = either a (both b c)
either_more a (either b c) = either a (either b c)

-- one or the other, in short
abbrev pub either_of : Pattern → Pattern → Pattern
either_of nothing b = b
either_of empty b = either_more empty b
either_of (one p) b = either_more (one p) b
either_of (any p) b = either_more (any p) b
either_of (both a c) b = either_more (both a c) b
either_of (either a c) b = either_more (either a c) b

-- the empty word is a spelling
abbrev pub nullable : Pattern → Bool
nullable nothing = false
nullable empty = true
nullable (one p) = false
nullable (any p) = true
nullable (both a b) = nullable a && nullable b
nullable (either a b) = nullable a || nullable b

-- what may follow the character
abbrev pub after : ℕ → Pattern → Pattern
after c nothing = nothing
after c empty = nothing
after c (one p) = cond (p c) empty nothing
after c (any p) = cond (p c) (any p) nothing
after c (both a b) = either_of (both_of (after c a) b) (cond (nullable a) (after c b) nothing)
after c (either a b) = either_of (after c a) (after c b)
