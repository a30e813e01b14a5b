-- What the contracts of `text_words` cite.
pub mod Words
pub mod Scan
pub mod Walk
