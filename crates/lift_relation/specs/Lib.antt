pub mod RelatedExpr
pub mod Environments
pub mod Weaving
pub mod RelatedNames
pub mod RelatedItems
pub mod Correspondence
pub mod OwnItems
