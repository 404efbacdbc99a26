-- Laws of the data of commands that proofs cite.
pub mod Answers
pub mod References
pub mod Offsets
pub mod Updates
pub mod Searches
pub mod Determined
