-- The bodies of record files, and the numbers in them.
pub mod Little
pub mod Body
