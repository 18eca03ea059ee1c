mod Filed
mod Entries
pub mod BeginLaws
pub mod LeftLaws
pub mod SceneLaws
pub mod NextLegs
pub mod LastingLaws
pub mod PlanExistence
pub mod NextLaws
pub mod ShownLaws
pub mod JoinedLaws
pub mod SchedulingLaws
pub mod PathLaws
pub mod FollowedLaws
pub mod AlikeLaws
