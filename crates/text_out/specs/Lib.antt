pub mod Put
pub mod Words
