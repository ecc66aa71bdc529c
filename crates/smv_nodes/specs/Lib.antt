pub mod Own
pub mod Mentions
pub mod Count
pub mod CountBySlot
