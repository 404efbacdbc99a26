-- A move to the same rooms.
pub mod Same
