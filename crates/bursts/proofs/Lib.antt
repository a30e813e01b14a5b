pub mod Grown
pub mod Theorems
