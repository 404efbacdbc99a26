-- Laws of the binary commands that proofs above cite, and what the contracts of this crate determine.
pub mod OddReading
pub mod Fewer
pub mod Determined
