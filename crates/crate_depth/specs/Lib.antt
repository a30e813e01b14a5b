-- How many bytes a program can want, and what a prefix of the input already settles.
pub mod Room
pub mod Parts
pub mod Prefix
pub mod Whole
