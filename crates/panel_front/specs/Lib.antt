-- What the contracts of `panel_front` cite.
pub mod Front
