pub mod Header
pub mod Plan
pub mod Steps
