-- The emission as a definition (Emission), what its size is told by (Sizes), and what the code asks, keeps and writes (Plan, Runs, Write).
pub mod Emission
pub mod Sizes
pub mod Plan
pub mod Runs
pub mod Write
