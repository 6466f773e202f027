pub mod Next
pub mod FirstDeeper
