pub mod Band
pub mod Call
pub mod OneTier
pub mod Price
pub mod Ready
pub mod Walk
