pub mod Mutual
pub mod Held
pub mod IdLaws
