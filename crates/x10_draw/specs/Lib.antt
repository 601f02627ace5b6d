pub mod Counting
pub mod Escapes
pub mod Pages
