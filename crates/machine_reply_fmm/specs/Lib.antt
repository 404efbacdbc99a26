-- FMM: the data returned.
pub mod Report
