-- What the contracts of reading the data of commands cite.
pub mod OffsetObject
pub mod Reference
pub mod Search
pub mod Update
pub use Rattle.objects_reader.specs.declared.reader.Span
