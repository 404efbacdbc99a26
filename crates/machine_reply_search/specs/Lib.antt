-- The reply of SEARCH RECORD: what the contracts cite.
pub mod Found
pub mod Loops
