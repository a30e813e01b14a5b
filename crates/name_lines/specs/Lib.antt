-- What the contracts of `name_lines` cite.
pub mod Lines
pub mod Short
