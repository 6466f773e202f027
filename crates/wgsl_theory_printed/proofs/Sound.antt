-- What a text derives is sound.
pub mod Scanned
pub mod SoundAttributes
pub mod SoundRules
pub mod DerivedSound
pub mod SoundUnits
pub mod RuleTerms
pub mod DerivedUnits
