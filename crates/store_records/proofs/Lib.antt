-- Laws of record bodies, by what they are about. The layers above the store cite Walks, and of the others what store_image's Laws repeats.
pub mod Numbers
pub mod Bodies
pub mod Walks
pub mod Appending
pub mod Growing
pub mod Determined
