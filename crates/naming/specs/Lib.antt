-- What the contracts of `naming` cite, and what is promised of them.
pub mod Name
pub mod Slots
pub mod Listed
pub mod Stands
pub mod Promises
