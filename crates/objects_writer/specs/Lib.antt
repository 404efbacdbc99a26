-- What the contracts of writing data objects cite.
pub mod Number
pub mod Writing
pub mod Writer
pub mod Fitting
