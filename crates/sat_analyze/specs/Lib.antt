pub mod Derived
pub mod Learnt
pub mod Marked
pub mod Walked
