-- What was written of a text.
use Rattle.std.specs.Prelude.{◌≡◌, ℕ, Bool, true, List, [], ◌++◌, Option}
use Rattle.std.specs.Io.KnownBytes.{Appends}

-- a beginning of the text was written, and where all went well, all of it
pub record Wrote (whole : Bool) (text : List ℕ) (old new : Option (List ℕ)) : Type 0 where
  pub sent : List ℕ
  pub rest : List ℕ
  pub parts : text ≡ sent ++ rest
  pub all : whole ≡ true → rest ≡ []
  pub appended : Appends old new sent
