-- The three promises: calls as data, and what is promised of them.
pub mod Words
pub mod Files
pub mod Calls
pub mod Matches
pub mod Promises
pub mod Done
pub mod Binary
pub mod Linked
pub mod Cuts
pub mod Bodies
pub mod Certificates
pub mod Index
pub mod Stamps
pub mod Rights
pub mod Links
pub mod FewerRights
