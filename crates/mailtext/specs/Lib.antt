-- The definitions of mailtext: message texts as octets and lines.
pub mod Fault
pub mod Text
pub mod MailText
pub mod Streams
pub mod Written
