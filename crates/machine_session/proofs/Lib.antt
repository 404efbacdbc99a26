-- Laws of sessions.
pub mod Steps
pub mod Fewer
pub mod Determined
