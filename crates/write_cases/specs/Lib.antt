-- Worked cases of the writer.
pub mod Computed
pub mod Cases
