-- The command machine: what one call does, and a card to try it on.
pub mod Effects
pub mod Step
pub mod Lent
pub mod Loops
pub mod Worked
