pub mod Ready
pub mod Failing
