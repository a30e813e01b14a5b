-- What the contracts of `panel_forms` cite.
pub mod Numbers
pub mod Forms
pub mod Laws
