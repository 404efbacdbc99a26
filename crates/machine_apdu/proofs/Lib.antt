-- `Laws` is for the crates above, `Rows` for the functions here, `Examples` for a reader. `Determined` is about the contracts.
pub mod Rows
pub mod Laws
pub mod Examples
pub mod Determined
