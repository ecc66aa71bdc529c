pub mod Nodes
pub mod Reads
pub mod ReadsMonotone
pub mod EdgesBySlot
pub mod Cycles
pub mod CyclesBySlot
pub mod NestingRules
pub mod Heights
