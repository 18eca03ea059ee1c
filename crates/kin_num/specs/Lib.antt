pub mod Roots
pub mod Quadratic
pub mod Canonical
pub mod Words
pub mod Instants
pub mod Order
pub mod Laws
pub mod Grains
