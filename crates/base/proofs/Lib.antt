-- Laws that the proofs of the other crates cite: of choices, of lists, of stored runs, of the same bytes, of parts, of parts that are returned. `Determined` is about the contracts here.
pub mod Cases
pub mod Lists
pub mod Runs
pub mod Same
pub mod Parts
pub mod Lending
pub mod Determined
