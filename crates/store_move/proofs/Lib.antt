-- Laws of a move.
pub mod Walk
pub mod Listing
pub mod Fitting
pub mod Writing
pub mod Moves
pub mod Determined
