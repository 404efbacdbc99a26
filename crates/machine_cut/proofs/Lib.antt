-- Laws of a command that is cut.
pub mod Cutting
pub mod Determined
