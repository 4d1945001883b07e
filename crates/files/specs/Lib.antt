pub mod Terms
pub mod Layout
pub mod Form
pub mod Range
pub mod Walk
pub mod Verdict
pub mod Order
pub mod Counting
