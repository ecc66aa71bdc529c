pub mod MarkLemmas
pub mod StatusLemmas
pub mod RefuteLemmas
pub mod UnitEntryLemmas
pub mod RoomLemmas
pub mod RuleLemmas
pub mod RedundantLemmas
