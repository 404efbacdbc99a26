-- The card image: what the store's contracts cite.
pub mod Image
pub mod Loops
