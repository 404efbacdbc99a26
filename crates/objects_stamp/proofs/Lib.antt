-- Laws of stamps that proofs cite. Start with `Stamps`, then `First`.
pub mod Telling
pub mod Table
pub mod First
pub mod Stamps
pub mod Writing
pub mod Worked
pub mod Determined
