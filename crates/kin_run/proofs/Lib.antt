pub mod Vocabulary
pub mod Arriving
pub mod Coming
pub mod OnTheWay
pub mod Changing
pub mod Replying
