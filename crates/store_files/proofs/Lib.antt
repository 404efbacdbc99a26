-- Laws of the files of a card.
pub mod Entries
pub mod Aids
pub mod Contents
pub mod Meant
pub mod Determined
