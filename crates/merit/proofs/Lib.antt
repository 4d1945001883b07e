pub mod Keyed
pub mod Groups
pub mod Laws
pub mod OneTier
pub mod Apart
pub mod Next
pub mod Steps
pub mod Walking
