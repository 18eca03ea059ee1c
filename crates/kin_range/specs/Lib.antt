pub mod Sides
pub mod Ranging
pub mod RangingLaws
pub mod FrugalLaws
