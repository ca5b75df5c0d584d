pub mod Order
pub mod Text
