pub mod Alike
pub mod FrameNumbers
pub mod PostedTurns
pub mod KeyRounds
pub mod MailPosts
pub mod Picks
pub mod RowLogs
