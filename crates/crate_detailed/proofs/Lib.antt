-- What the proofs of `crate_detailed` share.
mod Room
