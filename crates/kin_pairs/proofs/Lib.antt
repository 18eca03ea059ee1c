pub mod Sorted
pub mod Moving
pub mod Splitting
pub mod Joining
pub mod LiveNames
