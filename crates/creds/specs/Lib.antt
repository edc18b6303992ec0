pub mod Credential
pub mod Digests
pub mod LoginName
pub mod Names
pub mod Text
pub mod Uid
