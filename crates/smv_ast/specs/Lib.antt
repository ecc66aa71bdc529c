pub mod PrintedExpr
pub mod PrintedProgram
pub mod IgnoringSpans
