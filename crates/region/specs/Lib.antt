-- Regions and their counts (Regions), truth over counts (Counting), and patterns in words (Pattern).
pub mod Regions
pub mod Counting
pub mod Pattern
