-- What the fixed lists of both readings rest on.
pub mod Fixed
pub mod Gather
pub mod Numbered
