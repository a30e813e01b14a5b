-- What the contracts of `write_head` cite, and laws of it.
pub mod Head
pub mod Flags
pub mod Tests
pub mod Front
pub mod Heads
pub mod Totals
pub mod Fronts
pub mod Again
pub mod Dropped
