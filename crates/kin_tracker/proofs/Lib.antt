pub mod OneMoreKept
pub mod Arriving
pub mod Coming
pub mod Plans
