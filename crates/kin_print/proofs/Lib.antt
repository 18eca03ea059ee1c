pub mod Fronts
pub mod Moments
pub mod Failures
