-- What the contracts of `write_parts` cite, and laws of it.
pub mod Pair
pub mod Point
pub mod Text
pub mod Pairs
pub mod Points
pub mod Texts
pub mod Again
