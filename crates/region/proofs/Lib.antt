-- What is proved of regions and counts (Regions, Quantified, Counting), and of patterns (Covered, Bits, Lowest, Words, Pattern).
pub mod Regions
pub mod Quantified
pub mod Counting
pub mod Covered
pub mod Bits
pub mod Lowest
pub mod Words
pub mod Pattern
