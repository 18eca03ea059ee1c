pub mod Telling
pub mod Readiness
pub mod Vacancy
pub mod Settling
pub mod Leaving
pub mod Following
