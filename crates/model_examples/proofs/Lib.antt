pub mod FaultsOfDeclarations
pub mod Nodes
pub mod Operators
