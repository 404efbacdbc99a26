-- Laws of decisions.
pub mod Allowing
pub mod Early
pub mod Fewer
pub mod Determined
