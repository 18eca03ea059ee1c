pub mod Family
pub mod Pointers
