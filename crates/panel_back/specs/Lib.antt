-- That words, numbers, texts and runs are read as they were printed.
pub mod Solid
pub mod Numbers
pub mod Bytes
