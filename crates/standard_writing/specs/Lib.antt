-- What the contracts of `standard_writing` cite, and that one answer fits.
pub mod Places
pub mod Filled
pub mod Refusals
pub mod Promises
