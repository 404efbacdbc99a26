-- An index of the records of a file.
pub mod Index
