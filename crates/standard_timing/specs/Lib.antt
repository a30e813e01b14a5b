-- What the contracts of `standard_timing` cite.
pub mod Timing
