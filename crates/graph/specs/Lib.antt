pub mod Graphs
pub mod Reach
pub mod Ranks
pub mod Ways
