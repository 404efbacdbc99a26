-- Laws of written data objects that proofs cite, those of the replies too.
pub mod Numbers
pub mod Writings
pub mod Fitting
pub mod Storing
pub mod Sizes
pub mod Determined
