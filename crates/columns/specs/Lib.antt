pub mod Sum
pub mod Table
pub mod Lists
pub mod Test
pub mod Checks
