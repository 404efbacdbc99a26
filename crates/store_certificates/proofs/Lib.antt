-- Laws of the certificate that a stamp names.
pub mod Locating
pub mod Keeping
pub mod Determined
