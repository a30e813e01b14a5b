-- What the contracts of `crate_slot_lines` cite.
pub mod Lines
pub mod Known
pub mod Short
