-- Commands on any file: the ten steps of each in their order.
pub mod Select
pub mod Fmm
