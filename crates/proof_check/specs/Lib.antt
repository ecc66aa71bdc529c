pub mod Marks
pub mod Status
pub mod UnitEntry
pub mod Judged
pub mod CheckerState
