-- An attribute of none of these names.
use Rattle.std.proofs.Common.{◌≡◌, ℕ, Bool, true, false, List, refl, sym}
use Rattle.std.specs.Prelude.{bytes_eq}
use Rattle.std.proofs.lemmas.Slice.Eq.{bytes_eq-Decides}
use Rattle.wgsl_lex_names.proofs.sign.argument_role.Goals as goal

apart : (word text : List ℕ) → ¬ (text ≡ word) → bytes_eq word text ≡ false
apart word text other = go (bytes_eq word text) refl where
  go : (same : Bool) → bytes_eq word text ≡ same → bytes_eq word text ≡ false
  go false e = e
  go true e = absurd (other (sym ((bytes_eq-Decides word text).0 e)))

pub returns-in_default : goal.returns-in_default
returns-in_default c = let no = c.in_default in rw (
  apart _ _ no.not-align,
  apart _ _ no.not-binding,
  apart _ _ no.not-blend_src,
  apart _ _ no.not-group,
  apart _ _ no.not-id,
  apart _ _ no.not-location,
  apart _ _ no.not-size,
  apart _ _ no.not-workgroup_size,
  apart _ _ no.not-type,
  apart _ _ no.not-builtin,
  apart _ _ no.not-diagnostic,
  apart _ _ no.not-interpolate,
) refl
