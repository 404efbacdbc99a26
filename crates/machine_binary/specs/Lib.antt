-- Commands on transparent files: the ten steps of each in their order.
pub mod ReadBinary
pub mod ReadBinaryOdd
pub mod UpdateBinary
pub mod Activate
