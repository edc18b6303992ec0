pub mod Sums
pub mod Looks
pub mod Keeping
pub mod Fitting
