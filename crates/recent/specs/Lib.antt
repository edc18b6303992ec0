pub mod Recalling
pub mod Counting
