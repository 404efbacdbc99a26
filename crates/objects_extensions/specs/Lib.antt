-- What the contract of the reader of extensions cites, and what extensions are. Start with `Extensions`, then `Faults`.
pub mod Extensions
pub mod Faults
pub mod Read
