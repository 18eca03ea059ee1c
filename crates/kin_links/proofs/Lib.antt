pub mod Edits
pub mod Counting
pub mod Reading
pub mod Rewiring
pub mod Moves
pub mod Slots
pub mod Calls
