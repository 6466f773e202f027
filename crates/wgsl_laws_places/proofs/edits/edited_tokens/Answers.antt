-- The law is proved in the theory.
use Rattle.wgsl_theory_places.proofs.Retold.{edited_events}
use Rattle.wgsl_laws_places.proofs.edits.edited_tokens.Goals as goal

pub returns : goal.returns
returns c = λ g ts keeps words. edited_events g ts keeps words
