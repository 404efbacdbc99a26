-- What contracts of several crates cite; and what it is for a contract to leave nothing open.
pub mod Choice
pub mod Bytes
pub mod Lent
pub mod Determined
