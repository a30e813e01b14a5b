-- What the contracts of `standard_parts` cite, and where a text ends.
pub mod Structure
pub mod Head
pub mod Color
pub mod Timings
pub mod Descriptors
pub mod Text
pub mod TextEnds
