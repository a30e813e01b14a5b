-- What the contracts of `bits` cite.
pub mod Fields
pub mod Laws
pub mod Bytes
