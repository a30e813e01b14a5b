-- What the contracts of `panel_reading` cite.
pub mod Reading
