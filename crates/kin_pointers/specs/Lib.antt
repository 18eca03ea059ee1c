pub mod Ids
pub mod Pointing
