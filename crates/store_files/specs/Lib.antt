-- The files of a card: what the contracts cite.
pub mod Master
pub mod Files
pub mod Loops
