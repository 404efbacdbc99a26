-- Laws of an index: the list of places, what each function answers, an index that is kept.
pub mod Places
pub mod Answering
pub mod Keeping
pub mod Determined
