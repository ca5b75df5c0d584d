pub mod SearchTurns
pub mod NextKeyFacts
pub mod Ordered
