pub mod Numbers
pub mod Bytes
pub mod Swaps
pub mod Chain
pub mod Order
pub mod Before
pub mod Fronts
pub mod NumberFields
