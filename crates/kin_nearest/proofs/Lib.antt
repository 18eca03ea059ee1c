pub mod Stepping
pub mod Ending
pub mod Choosing
pub mod Searching
pub mod Leaving
