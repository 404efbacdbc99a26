-- Laws of stores in order, by what they are about. The layers above the store cite what store_image's Laws repeats.
pub mod Making
pub mod Cuts
pub mod Determined
