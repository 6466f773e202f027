-- What a laid-out text keeps of its source.
pub mod Alone
pub mod Touching
pub mod Readings
pub mod Encoded
pub mod Signs
pub mod TokenTexts
pub mod Walk
pub mod Read
pub mod TokenRoles
pub mod Neighbours
pub mod Parted
pub mod NeatTexts
mod Bodies
pub mod ClosedComments
mod TextFronts
mod NonBlankOf
pub mod ShownTexts
pub mod Trails
pub mod Gaps
pub mod Fitting
pub mod NeatPieces
pub mod Relaid
mod RelaidEnds
mod MeasuredTexts
mod PlainAhead
mod AheadStates
mod AheadSame
mod RowsAgain
mod LinesAgain
mod StylesAgain
mod GapsAgain
mod RelaidAgain
pub mod LaidTrails
pub mod LaidTokens
pub mod NeatWords
pub mod LaidText
pub mod SameShape
pub mod SameCharacters
pub mod CrlfTrivia
pub mod CrlfTokens
pub mod CrlfPieces
pub mod CrlfReads
pub mod CrlfShown
mod CrlfSame
mod Marks
mod LaidLineEnds
mod LineEnds
pub mod FormattedKept
mod NestedTokens
mod OpenedRoles
mod AlignedTexts
mod AlignedComments
mod BracketWords
mod AlignedWords
mod AlignedGaps
mod AlignedPieces
mod BracketPairs
pub mod ClosingBrackets
pub mod Lines
pub mod Kept
