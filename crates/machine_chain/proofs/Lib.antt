-- `Unused` is about bytes that are zero, `Laws` for the crates above. `Determined` is about the contracts.
pub mod Unused
pub mod Reading
pub mod Laws
pub mod Joining
pub mod Copying
pub mod Storing
pub mod Determined
