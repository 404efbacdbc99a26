-- Laws of an answer.
pub mod Saying
pub mod Determined
