pub mod Emitted
pub mod Unsat
pub mod Words
