-- Laws of the rows of a list.
pub mod Rows
pub mod Search
pub mod Empty
pub mod Blank
pub mod Determined
