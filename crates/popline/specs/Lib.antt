pub mod Cutting
pub mod Commands
pub mod Spelling
pub mod Replies
pub mod ReplyForm
pub mod Seen
