-- What the contracts of `picking` cite, and what is promised of them.
pub mod Choice
pub mod Best
pub mod First
pub mod Score
pub mod Promises
pub mod Entry
pub mod Cases
