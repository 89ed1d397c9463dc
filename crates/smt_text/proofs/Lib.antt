pub mod Writing
pub mod Taken
pub mod Free
pub mod Enough
pub mod Input
pub mod Whole
