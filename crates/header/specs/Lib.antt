pub mod Format
pub mod Answers
pub mod Steps
pub mod Contents
pub mod Refusals
pub mod Spans
pub mod Offsets
pub mod Magics
