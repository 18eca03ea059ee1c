pub mod Keepings
pub mod Contests
pub mod Octants
pub mod Merges
pub mod Envelopes
