pub mod Duty
pub mod Duties
pub mod Average
pub mod Ranged
