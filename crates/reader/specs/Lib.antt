-- What is believed of the reader.
pub mod Held
pub mod Runs
pub mod Same
pub mod Left
pub mod Answer
