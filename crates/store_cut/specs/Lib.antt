-- The stores of APPEND RECORD and ACTIVATE, in order.
pub mod Stores
