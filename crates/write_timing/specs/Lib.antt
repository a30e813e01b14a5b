-- What the contract of `write_timing` cites, and laws of it.
pub mod Timing
pub mod Axes
pub mod Last
pub mod Whole
pub mod Again
pub mod Dropped
