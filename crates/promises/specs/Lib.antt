pub mod Back
pub mod RowContents
pub mod RoundTrip
pub mod Known
pub mod Refusals
pub mod Sizes
