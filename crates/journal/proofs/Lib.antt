pub mod Guarding
pub mod Uids
pub mod Places
pub mod Heads
mod MessageIdRows
