pub mod Quotients
pub mod Starts
pub mod Existence
