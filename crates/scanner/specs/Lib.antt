-- What the scanner's functions answer, in numbers.
pub mod Finds
