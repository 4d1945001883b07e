pub mod Laws
pub mod Topped
pub mod Unique
