-- What the contracts of command bytes cite.
pub mod Shape
pub mod Status
