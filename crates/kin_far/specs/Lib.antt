pub mod FarCells
pub mod Diameters
