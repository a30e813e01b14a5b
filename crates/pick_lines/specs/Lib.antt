-- What the contracts of `pick_lines` cite, and what an answer means.
pub mod Asked
pub mod Lines
pub mod Known
pub mod Says
pub mod Short
