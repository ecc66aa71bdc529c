pub mod Logged
pub mod IsSound
pub mod LogState
pub mod Standing
