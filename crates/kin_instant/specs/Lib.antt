pub mod Remainders
pub mod Roots
pub mod Sides
pub mod Places
pub mod Keys
pub mod Laws
