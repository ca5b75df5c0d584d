pub mod Padding
pub mod Layout
pub mod Placement
