-- The chain of a session, and its bytes.
pub mod Chain
pub mod Layout
