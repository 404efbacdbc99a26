-- Sessions: what the contracts cite.
pub mod Order
pub mod Session
pub mod Verdict
pub mod Resolve
