pub mod Planning
pub mod Filing
pub mod Paths
pub mod Planned
pub mod Nexts
pub mod Shown
pub mod Joined
pub mod Scheduling
