-- What the contracts of `standard_head` cite.
pub mod Head
