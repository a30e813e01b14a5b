-- What the contracts of `exports` cite.
pub mod Numbers
pub mod Pick
pub mod Picked
