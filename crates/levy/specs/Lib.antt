pub mod Rounds
pub mod Capped
pub mod Asked
