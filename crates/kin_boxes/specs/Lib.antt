pub mod Boxing
pub mod Sweeps
pub mod BoxingLaws
pub mod FrugalLaws
