-- What the contracts of `panel_layout` cite.
pub mod Layout
pub mod Along
