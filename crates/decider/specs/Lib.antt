-- The rule, and what the decider answers by it.
pub mod Rule
pub mod Plan
pub mod Answer
pub mod Decision
pub mod Standing
pub mod Setting
pub mod Held
pub mod Threshold
pub mod Small
