-- Commands on record files: the ten steps of each in their order.
pub mod AppendRecord
pub mod ReadRecord
pub mod SearchRecord
