-- What the contracts of `timing` cite.
pub mod Axis
pub mod Rest
