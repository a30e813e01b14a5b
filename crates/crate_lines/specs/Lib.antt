-- What the contracts of `crate_lines` cite.
pub mod Lines
pub mod Known
pub mod Short
