pub mod Small
pub mod Told
pub mod Laws
pub mod Unique
