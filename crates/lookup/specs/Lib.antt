pub mod Questions
pub mod Search
pub mod Tensors
pub mod Refusals
