-- What a record shows, its canonical block, when a block gives a record; how the lists are used up, slot by slot; and the laws of these.
pub mod Shown
pub mod Canonical
pub mod Gives
pub mod Taken
pub mod Holds
pub mod Turns
pub mod Slots
pub mod Leaves
pub mod Every
pub mod Given
pub mod Ratios
pub mod Built
pub mod Own
pub mod Promises
pub mod Dropped
