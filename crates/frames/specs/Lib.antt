-- What is read of a frame, and what is answered.
pub mod Frame
pub mod Answer
pub mod Run
