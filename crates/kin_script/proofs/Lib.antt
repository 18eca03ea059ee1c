pub mod LineLaws
pub mod NumberLaws
pub mod WordLaws
pub mod LeftLaws
pub mod ReadingLaws
pub mod NumberedLaws
pub mod RangeLaws
pub mod Rows
pub mod PrintedRows
pub mod WrittenLaws
pub mod FirstBadLaws
pub mod Theorems
pub mod EachGiven
pub mod WordRanges
pub mod Changes
pub mod ScriptRanges
pub mod PrintedNumbers
pub mod TextsTell
pub mod Counts
pub mod Questions
mod GeneratedLaws
pub mod GeneratedRanges
mod GeneratedRows
