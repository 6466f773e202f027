-- What is read after a value that it waits for.
use Rattle.grammar.specs.States.{State, Read, Read.done, ◌>>=◌}

-- what is read waits for a value, and gets it
abbrev pub given : {A B : Type 0} → A → (State → Read (A → B)) → State → Read B
given a r s = r s >>= λ f s'. done (f a) s'
