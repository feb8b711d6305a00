pub mod Framing
pub mod Streams
pub mod Frames
pub mod FrameLaws
pub mod Replies
pub mod ReplyLaws
pub mod Spelling
pub mod Laws
