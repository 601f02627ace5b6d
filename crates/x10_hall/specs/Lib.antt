pub mod Halls
pub mod Mails
pub mod Rows
pub mod Repetitions
pub mod KeyLists
