-- Laws of data objects that proofs cite. Start with `Taking`, which the templates use, and `Exact`.
pub mod Lengths
pub mod NumberRead
pub mod Steps
pub mod Within
pub mod Heads
pub mod Unique
pub mod Sayable
pub mod Sizes
pub mod Exact
pub mod Taking
pub mod Determined
