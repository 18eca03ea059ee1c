pub mod Ranges
pub mod Numbers
pub mod Keeping
pub mod Trackers
pub mod Changes
pub mod Times
pub mod Questions
