pub mod Decimals
pub mod Lines
pub mod Numbers
pub mod Words
pub mod Readings
