pub mod Pay
