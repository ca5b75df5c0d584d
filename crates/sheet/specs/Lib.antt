pub mod Format
pub mod Sheet
pub mod Steps
