mod Keeping
mod ByOptions
mod Ended
