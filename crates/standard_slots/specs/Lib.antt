-- What a slot says, and what the contract of `standard_slots` cites.
pub mod Said
pub mod Answers
pub mod Each
pub mod Few
pub mod Spans
pub mod Alike
