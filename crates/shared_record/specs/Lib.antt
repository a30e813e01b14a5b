-- The list of established timings, made of a plain list, and the laws of a walk that fills it.
pub mod Established
pub mod Walk
