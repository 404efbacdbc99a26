-- Laws of SELECT and FMM that proofs above cite, and what the contracts of this crate determine.
pub mod Fewer
pub mod Determined
