pub mod Seen
pub mod Merging
pub mod Changes
pub mod Cells
pub mod Sweeping
pub mod Seats
pub mod Diameter
pub mod DiameterLaws
