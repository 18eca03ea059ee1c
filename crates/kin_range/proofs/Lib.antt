pub mod Settling
pub mod Spans
pub mod Rising
