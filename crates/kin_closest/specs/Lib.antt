pub mod Told
pub mod Closing
pub mod ClosingLaws
pub mod FrugalLaws
