pub mod Measure
pub mod Load
