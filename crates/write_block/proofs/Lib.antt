pub mod Canon
pub mod Ratios
pub mod Promises
