-- Writing into a lent list.
pub mod Write
