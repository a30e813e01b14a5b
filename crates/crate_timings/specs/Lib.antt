-- The definitions of flags and pairs, how the code fills its lists, and what holds of their sizes.
pub mod Established
pub mod Pairs
pub mod Filling
pub mod Sizes
