pub mod Lines
pub mod Replays
