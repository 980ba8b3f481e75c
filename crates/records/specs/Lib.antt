pub mod Records
pub mod NoticeView
pub mod ReaderView
pub mod Taking
pub mod Laws
