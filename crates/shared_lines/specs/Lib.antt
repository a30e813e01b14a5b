-- What the contracts of `shared_lines` cite.
pub mod Lines
pub mod Known
pub mod Short
