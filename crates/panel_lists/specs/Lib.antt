-- What the contracts of `panel_lists` cite.
pub mod Lists
pub mod Laws
pub mod Known
