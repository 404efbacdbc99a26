-- Laws of one call.
pub mod Saying
pub mod Reaching
pub mod Seeking
pub mod Accepting
pub mod Worked
pub mod Determined
