-- What is proved of matrices: lists built node by node (Build), values within their bounds (Bounded).
mod Words
mod Kindwise
mod Worked
pub mod Build
pub mod Bounded
pub mod Shown
pub mod Open
pub mod Known
mod Turn
mod Limits
pub mod Positions
pub mod Grown
mod Filling
mod Marks
mod Placing
