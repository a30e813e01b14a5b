-- What the contracts of `text_lines` cite.
pub mod Lines
pub mod Scan
pub mod Walk
pub mod Laws
pub mod Known
