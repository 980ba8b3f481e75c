pub mod Replies
pub mod RepliesCode
pub mod ReplyView
pub mod Pages
pub mod Reading
pub mod Laws
