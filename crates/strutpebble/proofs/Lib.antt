pub mod RowsEnough
pub mod NeverReturnsSix
pub mod MoreBytes
