-- A list of rooms for a card: what it lays out.
pub mod Rooms
