pub mod Texts
pub mod Spelled
pub mod Size
pub mod Printed
pub mod Shown
