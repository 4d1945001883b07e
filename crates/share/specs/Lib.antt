pub mod Share
pub mod Process
pub mod Split
pub mod Steps
