pub mod Candidates
pub mod Hits
pub mod BestPairs
