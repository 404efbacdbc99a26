-- `Fitting` is about the chains that links can have left. `Determined` is about the contracts.
pub mod Fitting
pub mod Turning
pub mod Determined
