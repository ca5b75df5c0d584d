pub mod Value
pub mod Bytes
pub mod Order
