-- What the contracts of `panel_writing` cite.
pub mod Answer
