-- Laws of sessions as bytes.
pub mod Storing
pub mod Laws
pub mod Determined
