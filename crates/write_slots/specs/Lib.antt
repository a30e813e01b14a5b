-- What a slot shows, the bytes that show it, what the contracts of `write_slots` cite, and laws of it.
pub mod Words
pub mod Slot
pub mod Writes
pub mod Tests
pub mod Cases
pub mod Laws
pub mod Runs
pub mod Tells
pub mod Points
pub mod Descriptors
pub mod Limits
pub mod Ranges
pub mod Again
pub mod Dropped
