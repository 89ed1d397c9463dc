-- What is proved of the rule and its answers.
pub mod Tries
pub mod Truth
pub mod Alike
pub mod Threshold
pub mod Small
pub mod Answer
pub mod Steps
pub mod Total
pub mod Admitted
pub mod Demand
pub mod SetLimit
pub mod Heap
pub mod Passing
pub mod Levels
pub mod Settling
pub mod Turns
