-- What the contract of `tags` cites.
pub mod Tags
