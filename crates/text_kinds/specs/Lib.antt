-- What the contracts of `text_kinds` cite.
pub mod Kinds
pub mod Answers
pub mod Gathered
pub mod Laws
