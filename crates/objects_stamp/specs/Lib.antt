-- What the contract of the stamp reader cites, and what a stamp is. Start with `Stamp` and `Chars`, then `Rules` and `Faults`.
pub mod Chars
pub mod Stamp
pub mod Rules
pub mod FirstFault
pub mod Faults
pub mod Read
pub mod Loops
