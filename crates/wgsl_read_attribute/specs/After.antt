-- What is after attributes that were read.
use Rattle.grammar.specs.States.{State, Read, Read.done, ◌>>=◌}
use Rattle.wgsl_model.specs.Trees.Attributes.{Attributes}

-- a part after attributes that were read, and what a rule makes of both
abbrev pub after_attributes : {A B : Type 0} → (Attributes → A → B) → Attributes → (State → Read A) → State → Read B
after_attributes make a part s = part s >>= λ u s'. done (make a u) s'
