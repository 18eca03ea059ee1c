pub mod Ranking
pub mod Orders
pub mod Leading
pub mod Trees
pub mod Sound
pub mod Finding
