pub mod Settlement
pub mod Within
pub mod Statement
pub mod Answer
pub mod Work
