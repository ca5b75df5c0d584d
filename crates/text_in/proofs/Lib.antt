pub mod Digits
pub mod DecimalBack
pub mod Examples
