pub mod Nearing
pub mod NearingLaws
pub mod Walks
pub mod Searches
