-- What the contracts of `standard_slot_lines` cite.
pub mod Lines
pub mod Known
pub mod Short
