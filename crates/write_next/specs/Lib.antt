-- What the contracts of `write_next` cite, and what the next entries of a list are.
pub mod Next
pub mod Laws
