pub mod Truth
pub mod Rising
pub mod Numbered
pub mod Sound
pub mod Redundant
pub mod TableLemmas
pub mod IndexLemmas
