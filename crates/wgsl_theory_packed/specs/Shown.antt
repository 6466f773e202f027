-- What fills some places of a text, and what is printed of it, whatever follows.
use Rattle.std.specs.Prelude.{ℕ, ◌≡◌, List, ◌∷◌, ◌++◌}
use Rattle.wgsl_model.specs.Printed.Indentation.{after_line_ends}
use Rattle.wgsl_writer.specs.Depth.{spaces}
use Rattle.wgsl_model_packed.specs.Printing.{Prints}

-- at a depth, places that are filled from a form are printed as a text
pub record Shows (depth : ℕ) (places form printed : List ℕ) : Type 0 where
  pub shown : (more_places more_form more_printed left : List ℕ)
      → Prints depth more_places more_form more_printed left
      → Prints depth (places ++ more_places) (form ++ more_form)
      (after_line_ends (spaces depth) printed ++ more_printed) left

-- at a depth, after a text, places that are filled from a form are printed up to the end of another
pub record Ends (depth : ℕ) (places form begun ended : List ℕ) : Type 0 where
  pub text : List ℕ
  pub whole : begun ++ text ≡ ended
  pub shows : Shows depth places form text

-- at a depth, a form that fills the first of two rules' places, and takes the second away from what
-- follows, is printed as a text
pub record Leads (depth : ℕ) (form printed : List ℕ) : Type 0 where
  pub led : (places more_form more_printed left : List ℕ)
      → Prints depth (36 ∷ places) more_form more_printed left
      → Prints depth (36 ∷ (36 ∷ places)) (form ++ more_form)
      (after_line_ends (spaces depth) printed ++ more_printed) left
