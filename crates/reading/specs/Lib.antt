pub mod Choice
pub mod Reading
pub mod Each
pub mod Pieces
pub mod Ceilings
pub mod Back
pub mod Refusals
pub mod Replies
