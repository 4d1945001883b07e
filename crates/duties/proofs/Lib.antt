pub mod Parts
pub mod Laws
pub mod Averages
pub mod Reached
pub mod Unique
pub mod Figures
