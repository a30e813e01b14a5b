-- What the contracts of `cta_lines` cite.
pub mod Lines
pub mod Known
pub mod Short
