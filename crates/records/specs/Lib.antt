pub mod Number
pub mod Fields
pub mod Buffer
pub mod Record
pub mod Sheet
