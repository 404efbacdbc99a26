-- Laws of the match in a window that proofs cite.
pub mod Occurring
pub mod Windows
pub mod Moving
pub mod Clearing
pub mod Determined
