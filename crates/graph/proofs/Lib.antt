pub mod RankLemmas
pub mod CycleLemmas
pub mod WayLemmas
pub mod Renaming
pub mod Acyclic
