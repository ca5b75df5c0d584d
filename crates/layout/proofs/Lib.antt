pub mod Padding
pub mod Places
pub mod OffsetFacts
pub mod Examples
