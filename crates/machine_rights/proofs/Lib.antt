-- `Laws` is for the crates above, `Elements` and `Answers` for the functions here, `Examples` for a reader, `Table23` for both. `Determined` is
-- about the contracts.
pub mod Elements
pub mod Table23
pub mod Answers
pub mod Laws
pub mod Bits
pub mod Joining
pub mod Subsets
pub mod Examples
pub mod Determined
