-- Steps 1 to 3, and then the command.
pub mod Decide
pub mod Loops
