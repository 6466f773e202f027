-- Lemmas on texts and tokens.
pub mod Fronts
pub mod Characters
