pub mod Rank
pub mod Failures
pub mod Blocks
pub mod Approach
pub mod Laws
