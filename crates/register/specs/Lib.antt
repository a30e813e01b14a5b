-- The panel register, and what holds of its steps.
pub mod Register
pub mod Refusals
pub mod Laws
pub mod Promises
pub mod Cases
