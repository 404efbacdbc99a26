-- What the contracts of the rights cite, and the laws of rights.
pub mod Rights
pub mod Chain
pub mod Joining
