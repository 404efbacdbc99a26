-- What is answered.
pub mod Outcome
