-- A register's file, and what holds of it.
pub mod File
pub mod Laws
pub mod Joined
pub mod Promises
pub mod Run
