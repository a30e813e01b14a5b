-- What the contracts of `panel_entries` cite.
pub mod Entries
