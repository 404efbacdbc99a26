-- Laws of the commands on record files.
pub mod Spelling
pub mod Searched
pub mod Fewer
pub mod Determined
