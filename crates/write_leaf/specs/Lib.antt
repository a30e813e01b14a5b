-- What it is to write a leaf, and how numbers are spread over bytes.
pub mod Leaf
pub mod Bytes
pub mod Digits
pub mod Every
pub mod Again
