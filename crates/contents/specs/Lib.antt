pub mod Content
pub mod InRange
