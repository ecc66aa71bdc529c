pub mod TreatedExpr
pub mod TreatedModel
pub mod Target
pub mod Treat
