-- From the machine's answer to what a caller gets.
pub mod Calling
pub mod Determined
