-- Laws of records joined.
pub mod Joining
pub mod Determined
