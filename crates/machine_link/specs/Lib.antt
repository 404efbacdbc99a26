-- What a link of a chain comes to, and which chains links can have left.
pub mod Parameters
pub mod Link
