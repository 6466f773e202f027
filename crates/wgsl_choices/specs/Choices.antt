-- Choices of which some parts are left open.
use Rattle.std.specs.Prelude.{None}
use Rattle.std.specs.Option.{option_or}
use Rattle.wgsl_choices.specs.declared.Choices.{Choices}

-- each part is left open
abbrev pub nothing : Choices
nothing = record { width = None; style = None; size = None; tab_width = None; newlines = None }

-- each part is the first's, or the second's where the first leaves it open
abbrev pub or : Choices → Choices → Choices
or first second = record {
  width = option_or first.width second.width;
  style = option_or first.style second.style;
  size = option_or first.size second.size;
  tab_width = option_or first.tab_width second.tab_width;
  newlines = option_or first.newlines second.newlines;
}
