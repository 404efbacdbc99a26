-- What the contracts of data objects cite.
pub mod Head
pub mod Form
pub mod Encoding
pub mod Places
pub mod Loops
