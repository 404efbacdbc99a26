-- What the contracts of the match in a window cite.
pub mod Window
pub mod Loops
