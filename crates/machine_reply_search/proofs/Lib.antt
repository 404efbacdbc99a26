-- Laws of what a search finds.
pub mod Searching
pub mod Matching
pub mod Listing
pub mod Worked
pub mod Determined
