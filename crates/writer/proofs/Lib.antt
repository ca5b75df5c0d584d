pub mod Scalars
pub mod Loops
pub mod ValuesWritten
pub mod RowsWritten
pub mod Entries
pub mod Tensors
pub mod Planned
