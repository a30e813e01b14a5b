-- What is shown of the definitions: worked cases, demand 3, and what else holds of every answer of either reading; of sums of parts, of bursts, of
-- how many bytes are taken, of picks, and of names.
pub mod Specimen
pub mod Panels
pub mod Cases
pub mod Demands
pub mod Spans
pub mod Standard
pub mod Sums
pub mod Bursts
pub mod Bytes
pub mod Picks
pub mod Names
