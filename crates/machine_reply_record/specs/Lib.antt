-- READ RECORD: the data returned.
pub mod Joined
