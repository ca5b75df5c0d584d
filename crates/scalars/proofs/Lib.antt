pub mod Bits
pub mod Complement
pub mod Types
pub mod Integers
pub mod Signs
