pub mod Format
pub mod Rows
pub mod Contents
pub mod Steps
