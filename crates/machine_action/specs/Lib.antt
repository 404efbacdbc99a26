-- What a command comes to, and the tests that commands share.
pub mod Tests
