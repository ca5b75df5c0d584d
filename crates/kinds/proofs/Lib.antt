pub mod KindTable
pub mod Products
pub mod WholeBlocks
pub mod SizeTests
pub mod Answers
pub mod Examples
pub mod KnownProducts
