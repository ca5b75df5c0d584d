pub mod Lengths
pub mod RowsListed
pub mod Examples
