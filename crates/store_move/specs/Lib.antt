-- The move of a card to other rooms.
pub mod Moving
pub mod Loops
