pub mod Upper
pub mod Merging
pub mod Supports
pub mod Covering
pub mod Trees
