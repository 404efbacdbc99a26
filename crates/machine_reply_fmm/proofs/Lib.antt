-- Laws of a report.
pub mod Reporting
pub mod Determined
