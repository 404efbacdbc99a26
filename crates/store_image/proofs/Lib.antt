-- Laws of the card image, by what they are about.
pub mod Sections
pub mod Presence
pub mod Splicing
pub mod Files
pub mod Lending
pub mod Laws
pub mod Determined
