pub mod Briefs
pub mod PairKeys
pub mod Sorting
