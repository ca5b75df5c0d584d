pub mod RangeTurns
pub mod Meaning
pub mod Examples
