-- A command that is cut.
pub mod Cutting
pub mod Loops
