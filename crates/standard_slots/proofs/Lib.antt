-- What follows from what a slot says, of each of its answers.
pub mod Few
pub mod Spans
