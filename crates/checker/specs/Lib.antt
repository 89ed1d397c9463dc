-- What is believed of the claim table: the vocabulary (Claim, Kinds, Words, Sorts), the meaning (Meaning), and what is refused (Search, Dialect, Table,
-- Check, Refusals) or accepted (Accepted).
pub mod Claim
pub mod Kinds
pub mod Words
pub mod Sorts
pub mod Meaning
pub mod Search
pub mod Dialect
pub mod Table
pub mod Check
pub mod Stored
pub mod Refusals
pub mod Accepted
