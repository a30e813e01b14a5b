-- What the contracts of `standard_lines` cite.
pub mod Lines
pub mod Main
pub mod Known
pub mod Short
