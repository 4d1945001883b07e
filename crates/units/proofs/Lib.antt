pub mod Chosen
pub mod Unique
