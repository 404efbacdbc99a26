-- The certificate that a stamp names.
pub mod Certificates
