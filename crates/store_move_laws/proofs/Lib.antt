-- What is in the image after a move: the laws are in Laws.
pub mod Contents
pub mod Found
pub mod Refusals
pub mod Heads
pub mod Same
pub mod Laws
pub mod Worked
