-- The machine for C: what each function answers.
pub mod Face
