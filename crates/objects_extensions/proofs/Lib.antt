-- Laws of certificate extensions that proofs cite. Start with `Runs`, then `Chains`.
pub mod Kept
pub mod Runs
pub mod Steps
pub mod Chains
pub mod Worked
pub mod Determined
