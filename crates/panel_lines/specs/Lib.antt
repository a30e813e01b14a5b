-- What the contracts of `panel_lines` cite.
pub mod Lines
pub mod Known
pub mod Short
